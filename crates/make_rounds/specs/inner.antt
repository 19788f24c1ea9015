pub mod Answered
pub mod Closed
pub mod Counting
pub mod Found
pub mod Growing
pub mod Places
pub mod Starting
