pub mod Walk
pub mod Elements
