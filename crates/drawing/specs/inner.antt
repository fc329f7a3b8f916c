pub mod Ending
pub mod Kept
