-- What contracts of private functions speak of; no public claim rests on it
pub mod Edits
pub mod Trying
