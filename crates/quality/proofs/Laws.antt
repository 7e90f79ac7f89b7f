-- The laws of local quality, by topic.
pub mod Calls
pub mod Room
