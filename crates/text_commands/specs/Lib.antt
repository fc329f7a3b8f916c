pub mod Accepting
pub mod Conversion
pub mod Playing
pub mod Showing
pub mod Shown
