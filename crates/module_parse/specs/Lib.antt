pub mod Bare
pub mod inner
pub mod Parsed
pub mod Scripts
pub mod Whole
