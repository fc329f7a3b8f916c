-- the words that all other files share
mod Prelude
-- how a verdict is computed, and what the rows are made of
pub mod Courses
pub mod Verdicts
pub mod Units
pub mod Captures
pub mod Scripts
-- the rows, by subject
mod Station
mod Line
mod Links
mod Layers
mod Packets
mod Alone
mod NotJudged
mod Player
mod Limits
