-- What contracts of private functions speak of; no public claim rests on it
pub mod Aside
pub mod Coming
pub mod Says
pub mod BySaid
