pub mod Run
pub mod Index
