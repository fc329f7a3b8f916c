pub mod TapTelling
