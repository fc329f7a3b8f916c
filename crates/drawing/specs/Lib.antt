pub mod Telling
pub mod Drawing
pub mod inner
