mod BlockCheckRows
pub mod BlockCheck
pub mod BlockCheckTests
pub mod SumsOfCopies
pub mod WireNumbers
