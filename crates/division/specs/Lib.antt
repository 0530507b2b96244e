pub mod Over
pub mod Claim
pub mod Law
pub mod Wrong
