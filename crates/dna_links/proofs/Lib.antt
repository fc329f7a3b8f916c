-- what the tables come to
pub mod Tables
-- from what a program keeps of the links the same becomes of them
pub mod Cut
-- what links do without queues, they may do with them
pub mod AsMuch
-- the links of both sides, in every run
pub mod Runs
