-- The laws of the extended block that a removal leaves, by topic.
pub mod Segment
pub mod Extended
