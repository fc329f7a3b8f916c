pub mod PrintedTap
pub mod inner
