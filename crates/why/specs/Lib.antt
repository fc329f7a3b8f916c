-- What the digits are that are said of a refused record, and its first line
pub mod Digits
pub mod Refused
pub mod inner
