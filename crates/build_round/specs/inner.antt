pub mod Handing
pub mod Parts
