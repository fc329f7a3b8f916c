pub mod Fates
pub mod Range
pub mod Entries
