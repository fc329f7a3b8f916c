pub mod Step
pub mod SoFar
pub mod Playing
pub mod Runs
-- A step of both ends
pub mod Stepping
pub mod Sending
pub mod inner
