mod Sendable
mod Shown
pub mod Failing
pub mod FailingArrival
