pub mod ViewOuts
pub mod SheetOuts
