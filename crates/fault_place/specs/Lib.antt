pub mod Fault
pub mod inner
pub mod Limit
pub mod Order
pub mod Place
