-- The laws of lists under an order, by topic.
pub mod Fate
pub mod List
pub mod Lists
pub mod ListsPut
pub mod Width
pub mod Index
pub mod Acts
