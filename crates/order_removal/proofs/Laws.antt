-- The laws of removal lists, by topic.
pub mod Rank
pub mod Search
pub mod Listed
pub mod Place
pub mod Kept
pub mod Going
