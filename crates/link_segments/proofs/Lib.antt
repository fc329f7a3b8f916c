mod Pieces
mod Giving
pub mod AckWords
pub mod Arrived
mod Measured
pub mod Acknowledged
pub mod Holding
