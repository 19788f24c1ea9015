pub mod Members
pub mod Places
pub mod Tests
pub mod Records
pub mod Runs
pub mod Soundness
