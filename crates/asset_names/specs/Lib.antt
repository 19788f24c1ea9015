pub mod Answers
pub mod Clashes
pub mod Hash
pub mod inner
pub mod Message
pub mod Names
pub mod Reading
pub mod Template
