-- Numbers stay within their bounds: the numbers of one station are in order, and are numbered messages as two_nodes has them
pub mod Ordered
pub mod Numbers
-- what each record keeps
pub mod Stations
pub mod Lawful
pub mod Modulo
pub mod Receipts
-- so both nodes are within them in every run
pub mod Sides
pub mod Runs
