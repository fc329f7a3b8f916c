pub mod Fault
pub mod Fields
pub mod Packet
pub mod ReadingPacket
pub mod AckWord
pub mod Nsp
pub mod ReadingNsp
