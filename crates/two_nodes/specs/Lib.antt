-- What a reader must believe of two nodes that two lines join
pub mod Nodes
pub mod Past
pub mod Endings
pub mod Kept
pub mod Cutting
pub mod inner
pub mod Beginning
