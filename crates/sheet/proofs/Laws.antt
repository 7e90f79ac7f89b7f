-- The laws of the sheet, by topic.
pub mod Grammar
pub mod Each
pub mod Values
pub mod Lengths
pub mod Fits
pub mod Allowed
pub mod Sheet
pub mod Calls
pub mod Numbers
pub mod BothWays
pub mod Refuses
