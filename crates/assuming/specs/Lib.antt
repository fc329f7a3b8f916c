-- The message of the links in a unit
pub mod Messages
-- What a reader must believe: where each kind of assumption may stand
pub mod Assuming
-- What contracts of private functions speak of; no public claim rests on it
pub mod inner
