-- Which link a record is about, and what is shown of a link
pub mod Subject
pub mod LinkLine
pub mod inner
