pub mod Child
pub mod Message
pub mod Path
