-- The laws of cells, by topic.
pub mod Start
pub mod Written
