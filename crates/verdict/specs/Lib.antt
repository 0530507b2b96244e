pub mod Backend
pub mod Opening
pub mod Verdict
