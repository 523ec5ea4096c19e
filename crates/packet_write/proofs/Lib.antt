pub mod Writes
pub mod Fronts
pub mod Packets
pub mod Sealing
