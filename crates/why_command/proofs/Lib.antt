pub mod AnsweringWhy
