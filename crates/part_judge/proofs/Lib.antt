-- one end of a part along its capture
pub mod PartWalk
-- what it refuses is no piece of a run
pub mod PartFinal
