mod Lines
mod Parts
mod Rows
