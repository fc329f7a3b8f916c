pub mod Answering
pub mod AnsweringAlone
mod NotOpened
