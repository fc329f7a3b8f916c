-- What contracts of private functions speak of; no public claim rests on it
pub mod Ends
pub mod Tracks
pub mod Answer
