pub mod Ids
pub mod Loaded
