pub mod Children
pub mod Names
pub mod Parents
pub mod Walks
