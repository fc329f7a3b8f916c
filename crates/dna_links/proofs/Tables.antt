-- What the tables come to: numbers and their wire values
pub mod Numbers
-- what is left of the links, and what words acknowledge
pub mod Outcomes
pub mod MessageOutcomes
pub mod Words
-- what is never refused
pub mod Forms
