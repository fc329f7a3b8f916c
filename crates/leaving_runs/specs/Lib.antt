-- What a reader must believe of what is left of both captures: of stations, of nodes over both layers, and of records
pub mod Stations
pub mod Nodes
pub mod Records
pub mod Fitting
pub mod Meets
pub mod Tied
-- the same of one end alone
pub mod OneEnd
