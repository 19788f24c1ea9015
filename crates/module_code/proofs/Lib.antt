mod BlockOrder
pub mod Commas
mod Edits
mod IdTable
mod Numbering
