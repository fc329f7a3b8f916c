-- the words that all other files share
mod Prelude
mod Stations
mod Bytes
mod Along
mod Users
mod Sendings
mod Receipts
mod Noises
mod Steps
mod Runs
mod Packets
mod Tied
mod Whole
mod Refused
mod RefusedRecords
mod WholeRefused
mod Groups
pub mod Alone
