-- what no right node that sends all it composed sends
pub mod History
pub mod Fits
pub mod Wrong
-- what no right node sends again
pub mod Repeats
pub mod Noted
-- what is said of a unit, and what it means
pub mod Answers
pub mod inner
