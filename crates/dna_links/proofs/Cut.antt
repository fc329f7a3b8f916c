-- From what a program keeps of the links the same becomes of them: pieces and what comes for a link's segments, look-ups
pub mod Pieces
pub mod SegmentsArriving
pub mod LookUps
-- what is sent of a link's segments, and what is left of them when it ends
pub mod SegmentsSending
pub mod LateWords
pub mod Ended
-- each of the three tables
pub mod User
pub mod Sending
pub mod Arriving
pub mod LateLinks
pub mod LateUser
pub mod LateSends
pub mod LateArrives
