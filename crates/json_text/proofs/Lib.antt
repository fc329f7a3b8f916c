mod Characters
mod Texts
