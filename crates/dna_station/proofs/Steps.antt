-- What a sending, an effect and a record do
pub mod Checks
pub mod Effects
pub mod Happens
