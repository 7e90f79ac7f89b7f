-- The laws of writing a sheet, by topic.
pub mod Blocks
pub mod View
pub mod Views
pub mod Record
