pub mod Trails
pub mod Laws
pub mod Numbers
