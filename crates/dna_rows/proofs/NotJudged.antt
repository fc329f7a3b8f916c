mod Flags
mod Messages
