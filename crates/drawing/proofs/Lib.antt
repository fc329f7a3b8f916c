mod Told
mod Logs
mod Recents
mod Firsts
mod Onwards
mod Ladders
mod Writings
