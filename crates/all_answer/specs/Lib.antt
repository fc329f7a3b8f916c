pub mod AllLeft
