pub mod Exports
pub mod inner
pub mod Keys
pub mod Segments
pub mod Targets
