pub mod Listing
pub mod Counts
