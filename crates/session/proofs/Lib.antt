pub mod Telling
pub mod Window
pub mod Parts
