pub mod Payload
pub mod PayloadLaws
pub mod Quality
