pub mod Units
pub mod Tapping
pub mod Accusing
pub mod inner
