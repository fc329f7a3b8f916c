-- What becomes of a record at one side of two captures, and of all records of both; what an answer says of them; and what the judge keeps for its own
-- contracts
pub mod Sides
pub mod Courses
pub mod Judged
pub mod Pieces
pub mod inner
