pub mod Claim
pub mod Alike
