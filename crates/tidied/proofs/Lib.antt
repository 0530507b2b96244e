pub mod Laws
pub mod Telling
pub mod Theorem
pub mod Example
