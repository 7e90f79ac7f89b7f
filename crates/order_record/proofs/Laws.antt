-- The laws of the record that an order leaves, by topic.
pub mod Skeleton
pub mod Index
pub mod Extended
pub mod Site
pub mod Splice
pub mod Sizes
pub mod Put
pub mod Acts
