-- The laws of the values of a view's fields, by topic.
pub mod Stand
pub mod Run
pub mod Segments
pub mod Told
pub mod Lines
pub mod Lists
pub mod Blocks
pub mod Index
