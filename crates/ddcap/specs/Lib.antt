pub mod Explaining
pub mod Helping
pub mod inner
