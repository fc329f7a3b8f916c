-- What contracts of private functions speak of; no public claim rests on it
pub mod Causes
pub mod Sides
pub mod Undetected
