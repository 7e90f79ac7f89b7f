pub mod PartsLaws
pub mod Verdicts
