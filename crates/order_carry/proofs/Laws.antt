-- The laws of a record that is held against the limits, by topic.
pub mod Held
pub mod Refuses
pub mod Carried
pub mod Ordered
