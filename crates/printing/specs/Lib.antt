pub mod Printed
pub mod PrintedAlone
pub mod Layers
pub mod NotOpened
pub mod Statuses
