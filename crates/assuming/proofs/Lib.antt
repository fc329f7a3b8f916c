-- a packet that is on its way back
pub mod Returned
-- what is among records stays so
pub mod SpotLaws
-- turns of which each is about something else
pub mod Sifting
-- a set of places has one more
pub mod Inserted
