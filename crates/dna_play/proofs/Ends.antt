-- An end with its node, and what holds of it: what comes to it, damaged or not, it can take
pub mod TrueEnd
pub mod DamagedUnits
pub mod ReceiptMakes
-- what a station owes can be paid
pub mod StationPays
pub mod OwedPays
-- what it chooses to send it sends
pub mod UnitLines
pub mod SendMakes
-- all this is kept by each thing that happens
pub mod StationOwes
pub mod StationStage
pub mod Stage
pub mod ReceiptStage
pub mod SendStage
-- messages that are whole go to the user
pub mod UpsFollow
