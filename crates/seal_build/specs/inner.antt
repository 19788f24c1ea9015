pub mod Adding
pub mod Ready
