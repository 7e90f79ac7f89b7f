-- The laws of the blocks, by topic.
pub mod Block
pub mod Index
pub mod Segments
