pub mod Ends
pub mod inner
pub mod Limits
pub mod Listing
pub mod Lists
