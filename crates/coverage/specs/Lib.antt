-- What a reader must believe of what a pair went through: the rows of the tables, which of them a record goes through, and how often
pub mod Missing
pub mod Row
pub mod Rows
pub mod Counts
pub mod Covered
pub mod Text
-- what contracts of private functions and ghost members alone name: there is nothing in it to believe
pub mod inner
