-- what a sending, an effect and a record do
pub mod Steps
-- from what a program keeps of a station the same becomes of it
pub mod Cut
-- numbers stay within their bounds
pub mod Bounds
-- packets are delivered in order
pub mod Delivery
