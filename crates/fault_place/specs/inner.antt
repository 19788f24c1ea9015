pub mod Place
pub mod Wording
