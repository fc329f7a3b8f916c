-- what a record does over both layers, and the links in every run
pub mod Alike
pub mod OnTop
pub mod Follows
pub mod Joined
-- the tags beside packets, and what is read of the packets
pub mod LayersLabels
pub mod LayersRead
pub mod ReadInRange
-- within the bounds the same becomes of what a program keeps, and every run is within them
pub mod LayersBounded
pub mod CutLayersSends
pub mod CutLayersNode
pub mod LayersBounds
-- what nodes without queues make, nodes with queues make as well
pub mod AsMuch
-- nodes that go by neither rule on tags, where no side starts twice and no link address is given twice
pub mod Once
-- one end alone, beside the pair
pub mod Alone
