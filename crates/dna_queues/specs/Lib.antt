-- What a reader must believe of nodes with queues: what a list of records is, nodes with queues by steps that no record shows, and which records
-- the links of such a node make
pub mod Records
pub mod Hidden
pub mod Made
-- a worked list
pub mod Worked
