pub mod Drawing
pub mod Closing
