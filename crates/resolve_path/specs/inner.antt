pub mod Fetches
pub mod Parts
