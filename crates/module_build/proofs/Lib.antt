pub mod Gains
pub mod Lists
pub mod Shapes
pub mod Trees
