pub mod Blocks
pub mod CommonPlaces
pub mod Counts
pub mod NextPlaces
pub mod Packed
pub mod Subsets
