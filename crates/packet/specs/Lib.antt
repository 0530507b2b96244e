pub mod Packet
pub mod Told
