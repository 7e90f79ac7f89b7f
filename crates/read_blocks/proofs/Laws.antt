-- The laws of writing a view's fields, by topic.
pub mod Line
pub mod Lines
pub mod Laying
pub mod Underway
pub mod Segments
pub mod Index
