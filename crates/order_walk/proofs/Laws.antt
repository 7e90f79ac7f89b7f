-- The laws of walking along the lists of an index block, by topic.
pub mod Walk
pub mod Block
pub mod Merge
