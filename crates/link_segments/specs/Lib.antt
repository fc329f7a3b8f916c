-- What a contract sees of the types of this crate; the rules are in `dna_links`
pub mod Piece
pub mod Outstanding
pub mod Received
pub mod inner
