-- The laws of rules and of the check, by topic.
pub mod Table
pub mod Check
pub mod Accept
