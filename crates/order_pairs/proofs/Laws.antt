pub mod Word
pub mod Turn
pub mod Trying
pub mod Size
pub mod Limits
