pub mod Packet
pub mod Discards
