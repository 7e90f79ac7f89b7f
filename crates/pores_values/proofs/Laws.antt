-- The laws of laying the numbers of pores, by topic.
pub mod Distances
pub mod Lines
