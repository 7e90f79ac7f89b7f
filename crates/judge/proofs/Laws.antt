-- The laws of the judge, by topic.
pub mod Whole
pub mod Calls
