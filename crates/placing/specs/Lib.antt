pub mod Placed
pub mod Counted
pub mod inner
