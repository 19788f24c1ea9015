pub mod inner
pub mod Lists
pub mod Stats
pub mod Together
