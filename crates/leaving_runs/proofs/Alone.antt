-- One end alone: what it makes of its records, what is left of it makes of what is left of them
-- its station, packets that come to it, and its links
pub mod Stations
pub mod Packets
pub mod Links
-- both layers: what its user does, what it sends, and what comes
pub mod Layers
pub mod Users
pub mod Sendings
pub mod Units
pub mod Kept
pub mod Receipts
-- all records, of what the program makes, and of whole groups
pub mod Runs
pub mod Whole
pub mod Groups
