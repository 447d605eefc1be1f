pub mod PacketNumbers
pub mod Packets
pub mod Values
