-- The laws of a payload that is put, by topic.
pub mod Listed
pub mod Putting
pub mod Payload
