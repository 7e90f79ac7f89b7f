pub mod Bytes
pub mod ThreeBytes
pub mod Sum
pub mod Laws
pub mod Into
pub mod Chain
