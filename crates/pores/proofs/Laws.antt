-- The laws of pores, by topic.
pub mod Keep
pub mod Size
pub mod Numbers
pub mod Room
pub mod Calls
pub mod Steps
