-- What contracts of private functions speak of, with what the toolchain wants of a type or a test; no public claim rests on it
pub mod Receipts
