pub mod Payload
pub mod PayloadLaws
pub mod Numbers
pub mod NumbersLaws
pub mod Size
pub mod Keep
pub mod Calls
