-- What packets tell of other nodes
pub mod OtherNode
pub mod NodeKind
pub mod NodeWords
