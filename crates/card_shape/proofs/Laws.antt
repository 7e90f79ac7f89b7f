-- The laws of the object's shape, by topic.
pub mod Length
pub mod Value
pub mod Others
pub mod Template
pub mod Object
