-- Words of ghost members alone, which no public contract names
pub mod Tells
