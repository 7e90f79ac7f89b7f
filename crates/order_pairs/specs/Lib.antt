pub mod Sizes
pub mod Judged
