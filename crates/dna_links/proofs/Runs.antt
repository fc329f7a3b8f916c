-- The links of both sides, in every run: what the captures tell, and pieces beside what was handed in
pub mod Reads
pub mod Pieces
-- one link beside its partner, and all of both sides
pub mod Sends
pub mod Loose
pub mod LateWords
pub mod Bare
pub mod LateSending
pub mod Late
pub mod Ends
pub mod Sides
pub mod SideUser
-- which link has which address, and how many messages were delivered
pub mod Owners
pub mod Counts
pub mod GivenAddress
pub mod ReadSteps
-- what a packet that is sent or kept does, and so what holds in every run
pub mod Takes
pub mod SideSends
pub mod Steps
pub mod Bounds
pub mod Bared
pub mod Every
pub mod Wider
