mod Beginnings
mod Kept
