-- The laws of a rewritten record, and of the two calls on payloads of any format, by topic.
pub mod Record
pub mod Bytes
pub mod Kept
pub mod Payload
pub mod PayloadNumbers
pub mod Calls
pub mod PayloadAccept
pub mod PayloadBroken
