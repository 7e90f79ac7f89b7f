pub mod Segment
pub mod Extended
