pub mod Puts
pub mod Names
pub mod Coming
pub mod Counts
pub mod Bare
