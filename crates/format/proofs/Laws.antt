-- The laws of the formats, by topic.
pub mod Size
pub mod Record
pub mod Named
pub mod Changed
pub mod Refuses
pub mod Call
pub mod Numbers
pub mod Finger
