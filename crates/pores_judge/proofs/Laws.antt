-- The laws of the judge of payloads of pores, by topic.
pub mod Judging
pub mod Parts
