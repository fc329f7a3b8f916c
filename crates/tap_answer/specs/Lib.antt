pub mod Telling
pub mod Words
pub mod SparedWords
pub mod AccusedWords
pub mod Before
