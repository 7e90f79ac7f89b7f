pub mod Rewrite
pub mod Bytes
pub mod Format
pub mod Called
pub mod Accepted
