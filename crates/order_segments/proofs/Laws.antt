-- The laws of going over a view's segments, by topic.
pub mod Over
pub mod Seen
