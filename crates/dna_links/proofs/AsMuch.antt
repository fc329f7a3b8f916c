-- What links do without queues, they may do with them as well, and the same becomes of them: over any book
pub mod Plain
pub mod Fit
-- each of the three tables
pub mod User
pub mod Sending
pub mod Arriving
-- the two books
pub mod TrueBook
pub mod WireBook
