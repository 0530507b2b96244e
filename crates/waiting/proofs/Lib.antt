pub mod Waiting
pub mod Packet
pub mod Held
pub mod Window
pub mod Example
