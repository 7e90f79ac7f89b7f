pub mod Laid
pub mod HighFirst
