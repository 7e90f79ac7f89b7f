-- Laws of a sheet's fields, by topic.
pub mod Parted
pub mod Sizes
pub mod Views
pub mod Stand
pub mod Index
pub mod View
pub mod Sheet
