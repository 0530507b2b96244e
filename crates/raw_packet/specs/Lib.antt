pub mod RawPacket
