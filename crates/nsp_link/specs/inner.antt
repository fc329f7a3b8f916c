-- What contracts of private functions speak of, with what the toolchain wants of a type or a test; no public claim rests on it
pub mod Link
pub mod Index
pub mod Indexing
pub mod Queue
pub mod Late
pub mod Rows
pub mod Failed
pub mod Permitted
pub mod Acted
pub mod Taken
