-- The laws of a record that is put together with another payload, by topic.
pub mod Front
pub mod Answered
pub mod Put
