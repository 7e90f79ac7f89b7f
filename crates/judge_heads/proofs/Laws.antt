-- The laws of the headers, by topic.
pub mod Header
pub mod Opening
pub mod View
pub mod Seen
