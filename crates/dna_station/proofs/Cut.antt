-- From what a program keeps of a station the same becomes of it: of what it sends, of what comes, of labels and its user
pub mod Sending
pub mod Arriving
pub mod Label
-- its counts
pub mod Loads
-- so the same becomes of a record at its node
pub mod Machines
pub mod Node
