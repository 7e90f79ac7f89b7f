pub mod Rank
pub mod Kept
