pub mod Stands
pub mod Finds
pub mod Site
pub mod Stored
