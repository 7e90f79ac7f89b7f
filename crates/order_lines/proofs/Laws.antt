-- The laws of the lines that a removal leaves, by topic.
pub mod Copy
pub mod Each
pub mod Lines
