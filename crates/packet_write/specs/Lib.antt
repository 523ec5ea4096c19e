pub mod Packets
pub mod Rooms
