pub mod Conditions
pub mod Numbering
pub mod Paths
pub mod Reached
pub mod Roots
pub mod Search
pub mod Walks
