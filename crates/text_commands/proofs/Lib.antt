pub mod AcceptLaws
pub mod Listing
mod PlayedBehind
mod TextsStand
