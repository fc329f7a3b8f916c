mod Steps
pub mod OneLink
mod User
mod Boots
mod Arriving
mod Calls
mod Confirming
mod Ends
mod Numbers
mod Requests
mod Restarts
mod Runs
mod Sending
mod Windows
mod Words
