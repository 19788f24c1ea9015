pub use Rattle.chunk_groups.specs.Grouped
pub use Rattle.chunk_groups.specs.Histories
pub use Rattle.chunk_groups.specs.Net
pub use Rattle.chunk_groups.specs.Rows
pub use Rattle.chunk_groups.specs.Serving
pub mod Availability
pub mod inner
pub mod Reasons
