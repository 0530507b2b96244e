pub mod Tidy
pub mod Claim
