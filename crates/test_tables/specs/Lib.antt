pub mod Claims
pub mod Clashes
pub mod Graph
pub mod Kinds
pub mod Limits
pub mod Paths
pub mod Places
pub mod Texts
