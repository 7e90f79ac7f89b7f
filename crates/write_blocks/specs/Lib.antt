pub mod Run
pub mod Puts
pub mod Lists
pub mod Outs
