-- The laws of a stored payload, by topic.
pub mod Cells
pub mod Valued
pub mod Judged
pub mod Laying
