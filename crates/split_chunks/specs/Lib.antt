pub use Rattle.split_plan.specs.Plan
pub use Rattle.split_plan.specs.Candidates
pub use Rattle.split_plan.specs.Step
pub mod Accepted
pub mod Ends
pub mod Loads
pub mod Rules
pub mod inner
