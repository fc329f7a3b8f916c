mod Arrows
mod Cuts
mod Keeping
mod Lists
mod Orders
mod Places
mod XmlTexts
mod XmlWords
