mod Words
mod FailedTurn
mod Agreeing
mod Acted
mod FailedWords
mod FailedSegment
pub mod FailedSending
pub mod FailedEvent
pub mod FailedArrival
mod FailedAllowed
mod Named
mod Delivery
mod Acknowledged
mod Holding
mod Counting
mod LookUps
mod Found
mod Indexed
mod Change
mod Holders
mod Forgotten
mod Beginning
mod Giving
mod Ended
mod Shown
mod LateWords
mod Requeued
mod Permitted
mod Used
mod Settled
mod InUse
mod KeptInUse
mod Rows
mod Booted
mod Dead
mod Dropped
