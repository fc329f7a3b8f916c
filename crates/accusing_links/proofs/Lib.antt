-- the words that all other files share
mod Prelude
pub mod Packets
-- what a station holds, and sends again
pub mod Held
-- the addresses of its node and of the other one stay
pub mod Each
pub mod Answered
pub mod Finds
pub mod Along
pub mod Addresses
-- no link has the address 0
pub mod Named
-- a node with any links that keep something
pub mod Nodes
-- what the words of a link stand for
pub mod Words
-- what a link received passed
pub mod Pieces
pub mod Received
pub mod Sends
-- so of every link of a node
pub mod RightLinks
pub mod LinkRows
pub mod LinkSteps
pub mod LinkSends
-- a link has its far address by a CI or a CC that passed
pub mod Tied
pub mod Rows
pub mod TiedRows
pub mod TiedSteps
pub mod TiedSends
pub mod Inserted
-- what passed stays so
pub mod Passing
-- so what no node sends has no placing
pub mod RightNode
pub mod Final
-- a link's last acknowledgement sent goes on
pub mod FarLinks
pub mod Ports
pub mod Follows
pub mod AllFollow
pub mod FollowRows
pub mod FollowSteps
pub mod FollowSends
-- and its words tell of it
pub mod FollowSaid
pub mod Inverted
pub mod Numbered
pub mod Phases
pub mod Onwards
pub mod Shown
pub mod Claims
pub mod NoneBack
pub mod PlacedClaims
pub mod Backward
pub mod Saying
pub mod Telling
