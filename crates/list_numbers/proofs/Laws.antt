-- The laws of the listing's numbers, by topic.
pub mod Index
pub mod Listing
