-- What contracts of private functions and ghost members name: nobody has to believe it.
pub mod Tracked
pub mod Met
pub mod Told
