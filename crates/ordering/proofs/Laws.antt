pub mod View
pub mod Removal
pub mod Pairs
