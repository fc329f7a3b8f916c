pub mod Spelled
pub mod Json
pub mod Written
pub mod inner
