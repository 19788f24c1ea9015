pub mod Numerals
pub mod Order
pub mod Steps
