-- What contracts of private functions speak of, with what the toolchain wants of a type or a test; no public claim rests on it
pub mod Entries
pub mod Reading
pub mod Making
pub mod Waiting
pub mod Beginning
pub mod Line
