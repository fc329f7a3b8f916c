-- Whole scripts: what they make is a run, with a line for each record, and where no side starts twice one with both rules
pub mod Steps
pub mod Order
pub mod Walk
pub mod Behind
pub mod Reached
pub mod PlayLines
pub mod Runs
pub mod Checked
-- what is known of both ends at any time
pub mod HandedLined
pub mod Known
pub mod SentLined
pub mod SidesLined
pub mod Facts
-- their captures have few records
pub mod FewRecords
-- the next step goes by its rule
pub mod Stages
pub mod Ruled
-- what was sent stays
pub mod SentGrows
