pub mod BlockCheck
pub mod PlainWindow
pub mod RingWindow
pub mod Seq
pub mod Side
pub mod Tally
pub mod Window
pub mod inner
