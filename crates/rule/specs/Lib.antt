pub mod Rules
pub mod Row
pub mod Check
pub mod Accepted
