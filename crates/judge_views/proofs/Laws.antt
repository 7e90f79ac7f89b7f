-- The laws of the nest, by topic.
pub mod Bounds
pub mod Line
pub mod Head
pub mod View
