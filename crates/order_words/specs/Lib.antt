pub mod After
pub mod Looked
