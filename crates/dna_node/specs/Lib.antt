-- What a reader must believe of a node over both layers: the two rules that a judge alone asks, and what a packet carries
pub mod TagRules
pub mod Content
-- the node on true numbers, and as a program keeps it
pub mod Layers
pub mod WireLayers
-- the run of two captures, and what two wire nodes show of it
pub mod LayersPair
pub mod CutLayers
pub mod Seen
-- what a judge takes the ends of a line for, and what a finding says of two captures
pub mod Kind
pub mod Verdict
-- a run of nodes with queues, beside that of nodes without
pub mod AsMuch
-- one end alone: what a right other end can have sent, and what this end makes of its capture
pub mod Accusing
pub mod Alone
-- what ghost members alone name: there is nothing in it to believe
pub mod inner
