pub mod Samples
pub mod Calls
