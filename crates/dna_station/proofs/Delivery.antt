-- Packets are delivered in order: what a period took is a beginning of what its partner period gave
pub mod Periods
pub mod Steps
-- the periods that took packets go with periods that rise
pub mod Partnered
pub mod InOrder
pub mod Among
-- what the receipts of a capture say; the places of packets
pub mod Captures
pub mod Places
-- so it is in every run
pub mod Runs
pub mod InOrderRuns
-- what the units of a capture offer
pub mod Offered
pub mod OfferedRuns
-- packets are kept in the order of their places
pub mod PlacesInOrder
