pub mod Numbers
pub mod Words
pub mod inner
pub use Rattle.path_text.specs.Path
