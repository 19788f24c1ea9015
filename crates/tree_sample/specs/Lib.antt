pub mod Sample
pub use Rattle.outside.specs.Tree
pub use Rattle.pack_util.specs.Answers
