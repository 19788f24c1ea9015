pub use Rattle.json_order.specs.Answer
pub mod Manifest
