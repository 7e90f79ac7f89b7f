-- The laws of writing a record, by topic.
pub mod View
pub mod Record
