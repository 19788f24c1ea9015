pub mod Cuts
pub mod Inserts
pub mod Listings
pub mod Members
pub mod Names
pub mod Orders
pub mod Within
