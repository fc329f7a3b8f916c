-- The same of ends as their nodes keep them: links that live beside all links
-- what is known when a step is made
pub mod Now
-- each step goes by its rule, keeps what holds, and is the same of both: timers, the user and his messages
pub mod Right
pub mod Timers
pub mod Made
pub mod Deliveries
pub mod Handed
-- stations, noise, and links that begin
pub mod Stations
pub mod Noise
pub mod Opened
-- what comes, and what is sent
pub mod Segments
pub mod Receipts
pub mod Sends
pub mod Steps
-- what it leaves on the lines
pub mod Left
-- so the ends alone play a script to the same captures
pub mod Law
