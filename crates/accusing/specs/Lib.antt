-- what a reader must believe: what a right station may have done while these units passed
pub mod Placing
-- what is known of a station by the units that passed, and which unit of its own refutes that
pub mod Mark
pub mod Heard
pub mod Beginning
pub mod Sight
-- what is said of a unit, and what it means
pub mod Answers
pub mod inner
