-- What a program takes, and what it tells of other words and of its own, where a table has its words
pub mod Taken
pub mod Advised
pub mod Pages
