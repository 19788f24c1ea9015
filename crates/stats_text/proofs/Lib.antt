pub mod BlockGroups
pub mod Held
pub mod Lists
pub mod Numbered
pub mod Plain
