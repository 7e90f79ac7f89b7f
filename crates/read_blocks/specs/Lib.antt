pub mod LineOuts
pub mod LineParts
pub mod BlockOuts
pub mod ListOuts
