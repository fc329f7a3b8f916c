-- What nodes without queues make, nodes with queues make as well: two machines, and the node over both layers
pub mod Nodes
pub mod Layers
-- the node of one end alone, and all that it makes
pub mod WireLayers
pub mod Alone
