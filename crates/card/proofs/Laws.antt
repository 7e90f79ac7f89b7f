-- The laws of the card's object, by topic.
pub mod Written
pub mod Views
pub mod Fits
pub mod Calls
pub mod Sifted
pub mod Numbers
pub mod Accept
pub mod Back
