pub use Rattle.bit_rows.specs.Places
pub use Rattle.bit_rows.specs.Table
pub mod Chunks
pub mod Moves
