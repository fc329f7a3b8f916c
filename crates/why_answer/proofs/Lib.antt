pub mod AnsweringWhyEnd
pub mod Rungs
pub mod Tellings
