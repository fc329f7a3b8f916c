pub mod Framing
pub mod Written
pub mod Given
pub mod SoFar
pub mod inner
