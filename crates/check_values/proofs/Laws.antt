-- The laws of a sheet's values, by topic.
pub mod Head
pub mod View
pub mod Views
pub mod Sheet
