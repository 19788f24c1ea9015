use Rattle.std.proofs.Common.{◌≡◌, ℕ, ◌<◌, false}
use Rattle.split_plan.specs.Step.{is_reusable}
use Rattle.split_chunks.proofs.reusing.reused_of.Given as goal

abbrev pub invariant-loop-place : goal.invariant-loop-place
invariant-loop-place l = (k : ℕ) → k < l.place → is_reusable l.state l.x.chunks l.x.modules k ≡ false
