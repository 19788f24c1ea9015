pub mod Answers
pub mod formers
pub mod Lists
pub mod Mark
