-- a receipt whose units before it were let go
pub mod Receipts
-- what is made stays so where the other side has ended
pub mod Facings
-- how what was read of a text grows
pub mod Readings
-- a side whose record was made
pub mod Walk
-- both under way
pub mod UnderWay
-- what is answered
pub mod Answered
-- what is refused is no piece of a run
pub mod Final
