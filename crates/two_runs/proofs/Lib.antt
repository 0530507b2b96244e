pub mod Aside
pub mod Range
pub mod Verdict
pub mod Step
pub mod Theorem
