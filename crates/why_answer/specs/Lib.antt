pub mod PrintedWhy
pub mod PrintedWhyEnd
pub mod LastRows
pub mod inner
