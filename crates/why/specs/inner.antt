-- What contracts of private functions speak of; no public claim rests on it
pub mod Ends
pub mod EndAlone
pub mod OtherEnd
