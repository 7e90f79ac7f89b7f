-- The laws of places, by topic.
pub mod Agree
pub mod Settles
pub mod Blocks
pub mod Shaped
pub mod Head
pub mod Format
pub mod Place
pub mod Calls
