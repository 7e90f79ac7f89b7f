pub mod Blocks
pub mod Rebuilt
