pub mod Places
pub mod Tracks
pub mod Counting
pub mod Walks
pub mod Steps
pub mod Meets
pub mod Covers
