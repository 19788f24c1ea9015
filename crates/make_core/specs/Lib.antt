pub mod Core
pub use Rattle.graph_types.specs.Reached
pub use Rattle.graph_types.specs.Targets
