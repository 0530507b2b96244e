pub mod Theorem
pub mod Example
