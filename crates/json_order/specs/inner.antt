pub mod Digest
pub mod Frames
pub mod Held
pub mod Modes
pub mod Steps
