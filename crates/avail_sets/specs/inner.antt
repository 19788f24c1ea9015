pub mod Falling
pub mod Layers
