-- The laws of an accepted record's parts and their places, by topic.
pub mod Standing
pub mod InBytes
pub mod Front
pub mod Prefixed
pub mod Blocks
pub mod View
pub mod Record
pub mod Views
pub mod Line
pub mod Lines
pub mod Site
pub mod Lists
pub mod Index
pub mod Segments
pub mod Written
pub mod Named
pub mod Apart
