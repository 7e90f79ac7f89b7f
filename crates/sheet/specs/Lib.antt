pub mod Parts
pub mod PartsLaws
pub mod Fields
pub mod Grammar
pub mod Values
pub mod Sheet
pub mod Accepted
pub mod Sample
