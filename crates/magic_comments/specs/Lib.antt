pub mod Comments
pub mod Magic
pub mod Pairs
