-- What contracts of private functions speak of, with what the toolchain wants of a type or a test; no public claim rests on it
pub mod Addresses
pub mod Marks
pub mod Index
pub mod Sending
pub mod Owing
pub mod Composing
pub mod Links
pub mod Delivering
