pub mod Walk
pub mod Merge
