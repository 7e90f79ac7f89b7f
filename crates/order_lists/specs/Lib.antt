pub mod List
pub mod Lists
pub mod Index
