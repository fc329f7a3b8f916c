-- What a reader must believe of an alignment: which unit each receipt gets
pub mod Aligned
pub mod Laws
