pub mod LeftLaws
pub mod LineLaws
