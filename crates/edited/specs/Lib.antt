pub mod Edited
pub mod Mistakes
pub mod Reader
pub mod inner
