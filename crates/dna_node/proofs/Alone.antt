-- What one end alone makes of its records, beside what the pair makes: what is forgotten of a node goes along
pub mod Along
pub mod LinkEffects
pub mod Links
pub mod Station
pub mod Forgotten
pub mod Layers
-- a record, where the other end's units are right
pub mod Steps
-- the other end's units are right in every run
pub mod Acks
pub mod Response
pub mod Right
-- all records of a run, and of each kind of node
pub mod Runs
pub mod BothLayers
pub mod StationsAlone
