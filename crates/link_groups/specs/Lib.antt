pub mod Place
pub mod Groups
pub mod LeftOut
pub mod inner
