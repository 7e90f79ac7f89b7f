-- The laws of words about pairs of lines, by topic.
pub mod Listed
pub mod Shape
pub mod Said
pub mod Bound
pub mod Falls
pub mod After
pub mod Lists
pub mod Record
