pub mod Order
pub mod Closed
pub mod Least
pub mod Reached
pub mod Blame
pub mod Listed
pub mod Before
pub mod Breaking
pub mod Ends
pub mod Lasting
pub mod Simulated
pub mod Counts
-- numbers that one side gives and the other takes
pub mod Numbered
pub mod NumberedSteps
