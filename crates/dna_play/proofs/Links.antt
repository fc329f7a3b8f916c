-- What holds of the links of an end: what they are and owe, how one is found, and a DC that is owed
pub mod Lists
pub mod Pays
pub mod Confirms
-- what they owe goes with their phases, and what these ask
pub mod Owing
pub mod Fits
pub mod Phases
-- what may become of a link, and what is kept of all
pub mod Goes
pub mod Keeps
pub mod Stage
pub mod Choices
-- what the user may do is done; of a message that is sent, and of one that comes
pub mod Made
pub mod SegmentsPay
pub mod Duties
pub mod Sent
pub mod Comes
-- what holds behind each change of them, and pieces that wait
pub mod Looked
pub mod Waiting
