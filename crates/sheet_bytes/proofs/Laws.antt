-- The laws of a sheet's bytes, by topic.
pub mod Values
pub mod Rendered
pub mod Sizes
pub mod Room
