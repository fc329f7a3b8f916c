-- the words that all other files share
mod Prelude
-- what a link has given was sent, and what it may send
pub mod Gave
pub mod Places
pub mod SegmentSends
-- so of every link of a node
pub mod RightLinks
pub mod LinkRows
pub mod LinkSteps
pub mod LinkSends
pub mod Nodes
-- what was sent under a number is outstanding as it was
pub mod SentPieces
pub mod SentAgain
pub mod EachLink
pub mod OneCall
pub mod Used
pub mod OneCallSteps
pub mod OneCallFirst
pub mod OneCallSends
pub mod OneCallNodes
-- what passed stays so
pub mod Passing
-- so what no right node sends has no placing
pub mod Final
pub mod SentUnits
pub mod OneCallSo
pub mod OneCallHears
pub mod OneCallFinal
-- what the accuser keeps of what passed
pub mod Known
pub mod Sizes
pub mod Notes
pub mod NotedAfter
