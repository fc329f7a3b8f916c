-- What a reader must believe of leaving links out: which records are left out, what is left of links and of records, and what has to hold of each
-- record
pub mod Marks
pub mod Records
pub mod LeftOut
pub mod Left
pub mod Right
-- the same of both ends
pub mod Worlds
-- worked lists
pub mod Worked
