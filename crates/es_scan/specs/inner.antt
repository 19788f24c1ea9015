pub mod Given
pub mod Seen
pub mod State
