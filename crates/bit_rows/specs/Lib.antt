pub mod Masks
pub mod Packing
pub mod Places
pub mod Table
pub mod Words
