-- The laws of writing a view's blocks, by topic.
pub mod Run
pub mod Puts
pub mod Line
pub mod Index
pub mod Lists
pub mod IndexBlock
pub mod Segments
