mod Causes
pub mod Units
mod InAstrt
mod InHalted
mod InIstrt
mod InRunning
mod Noise
mod Startup
mod Transfer
mod Order
mod Responses
mod Sending
mod Starts
mod User
mod Windows
