pub mod Laws
pub mod Reading
pub mod Telling
pub mod Example
