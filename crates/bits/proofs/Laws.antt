-- The laws of the kit that proofs cite, by topic.
pub mod Refuses
pub mod Place
pub mod Bytewise
pub mod Reads
pub mod Full
pub mod Loops
pub mod Parts
pub mod Nested
pub mod Apart
