-- What contracts of private functions speak of, with what the toolchain wants of a type; no public claim rests on it
pub mod Ahead
pub mod LineChanges
pub mod Lines
pub mod Reading
