-- What a reader must believe of what is left out: whose a record is, and what becomes of it
pub mod Addresses
pub mod Messages
pub mod About
pub mod Packets
pub mod Records
pub mod WrongNodes
pub mod Texts
pub mod Fitted
