-- The laws of the values, by topic.
pub mod Ended
pub mod List
