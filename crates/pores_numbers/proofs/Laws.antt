-- The laws of numbers that are lent for pores, by topic.
pub mod Fours
pub mod Sums
pub mod Judging
pub mod Front
