-- What a reader must believe of a station whose capture begins in its midst: what may be its numbers, what is known of it in RUNNING, what it may
-- be, and what its records make of that
pub mod Numbers
pub mod Open
pub mod Cases
-- what is said of a refusal
pub mod Fault
-- a piece of a run, and what a case holds
pub mod Piece
-- how large numbers are, so that they fit
pub mod Low
