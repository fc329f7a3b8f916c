-- What a reader must believe of the player: what a script is, and how its text is spelled
pub mod Script
pub mod ScriptText
-- what an end owes, what it sends next, how that is put together, and what comes to it
pub mod Owed
pub mod LinkOwed
pub mod NextSent
pub mod Compose
pub mod Receipt
-- what an end keeps, what happens to it, and what a step makes of it, or why it can't be made
pub mod StoredEnd
pub mod StoredStation
pub mod StoredLinks
pub mod Stop
pub mod StoredPlay
-- what a script stands for: of its ends, and with a node beside each
pub mod StoredPlayed
pub mod HasLine
pub mod Played
-- what the laws say of it: its run, and the rule of each step
pub mod PlayRun
pub mod StepRule
