-- the words that all other files share
mod Prelude
mod Judged
pub mod LookUps
mod Effects
pub mod After
mod Asked
pub mod Answered
mod Rows
pub mod Steps
pub mod Lists
pub mod Units
mod Whole
pub mod Sides
pub mod StepsLeft
pub mod SendsLeft
pub mod WorldSteps
pub mod Runs
