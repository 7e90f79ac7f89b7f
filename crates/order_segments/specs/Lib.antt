pub mod Walk
pub mod Kinds
