pub mod View
pub mod Sheet
