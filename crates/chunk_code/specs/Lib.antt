pub mod inner
pub mod Runtime
pub mod Texts
