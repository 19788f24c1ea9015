pub mod DrawHalves
pub mod Halves
