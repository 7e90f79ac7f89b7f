-- The laws of values that are judged and put, by topic.
pub mod Judging
pub mod Putting
