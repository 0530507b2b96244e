pub mod Wanted
pub mod Waiting
pub mod Window
