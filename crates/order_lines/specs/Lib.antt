pub mod Copy
pub mod Lines
