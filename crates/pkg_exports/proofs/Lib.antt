pub mod Greatest
pub mod Joins
pub mod Patterns
pub mod Ranks
pub mod Stars
pub mod Walks
