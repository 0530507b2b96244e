pub mod Plain
pub mod Device
pub mod Claim
pub mod Meaning
pub mod Within
pub mod Wrong
