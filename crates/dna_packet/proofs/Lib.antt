pub mod FieldsLemmas
pub mod PacketLemmas
pub mod AckWordLemmas
pub mod NspFieldsLemmas
pub mod NspTakes
pub mod NspAgain
mod Final
pub mod NspFinal
pub mod PacketFinal
