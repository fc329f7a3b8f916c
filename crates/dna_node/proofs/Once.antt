-- What follows where no side starts twice, and no link address is given twice: records and addresses in order
pub mod Orderly
pub mod Addresses
-- messages name both links, and the rule on partners asks nothing
pub mod Messages
pub mod AddressRuns
-- the rule on periods asks nothing
pub mod Starts
pub mod Meets
-- so nodes with both rules make the same
pub mod Checked
-- what a unit that was sent reads as
pub mod Units
