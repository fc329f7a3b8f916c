-- what a reader must believe: what a right node may have done while these units passed
pub mod Placing
-- what no right node puts into a data unit
pub mod Segments
pub mod Connects
pub mod Heard
pub mod Wrong
-- which acknowledgement goes back
pub mod Back
-- what is said of a unit, and what it means
pub mod Answers
pub mod AckAnswers
pub mod inner
