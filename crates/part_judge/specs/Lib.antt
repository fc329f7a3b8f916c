-- What becomes of the records of a part, one end of it as it is judged, what an answer says of them, and what the judge keeps for its own contracts
pub mod Steps
pub mod Ends
pub mod Judged
pub mod inner
