pub mod Grouping
pub mod Rings
pub mod Walking
pub mod Whole
