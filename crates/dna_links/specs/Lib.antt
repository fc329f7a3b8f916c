-- What a reader must believe of the links of a node: which link is meant, pieces of messages, and what the tables ask of the segments of a link
pub mod LookUps
pub mod Segmentation
pub mod SegmentBook
-- the links, their three tables, what queues leave open, and how links go by the tables
pub mod Links
pub mod User
pub mod Table
pub mod Queues
pub mod LinkBook
pub mod PacketAddresses
pub mod Sending
pub mod Arriving
-- segments and links on true numbers, and as a program keeps them
pub mod TrueSegments
pub mod WireSegments
pub mod TrueLinks
pub mod WireLinks
-- how the two go together
pub mod CutSegments
pub mod CutLinks
-- the links of both sides, in every run: what they come to, the bounds of numbers, what is delivered, and what the captures tell of it
pub mod Runs
pub mod Alike
pub mod Bounds
pub mod Delivery
pub mod Captures
-- words of private contracts and of proofs
pub mod inner
