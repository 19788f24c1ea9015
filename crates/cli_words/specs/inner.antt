pub mod Arguments
pub mod Clap
pub mod Line
pub mod Reading
