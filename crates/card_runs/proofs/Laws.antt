-- The laws of runs, by topic.
pub mod Runs
pub mod Plain
pub mod Accepted
pub mod Calls
pub mod Low
pub mod Back
