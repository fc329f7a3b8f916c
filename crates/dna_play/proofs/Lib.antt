-- the words that all other files share
mod Prelude
-- lists of bytes, and what holds of each element of a list
pub mod Bytes
pub mod EachElement
-- whole scripts
pub mod Played
-- what holds of the links of an end
pub mod Links
-- what holds of an end, and of what it sends and takes
pub mod Ends
-- the same of ends as their nodes keep them
pub mod Stored
