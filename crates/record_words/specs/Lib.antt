-- Where the layers of a record's bytes lie
pub mod Layers
