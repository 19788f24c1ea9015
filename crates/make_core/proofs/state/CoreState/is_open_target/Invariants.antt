use Rattle.std.proofs.Common.{◌≡◌, ◌⊎◌, ℕ, ◌<◌, Some}
use Rattle.std.specs.Prelude.{Contains}
use Rattle.make_core.specs.Core.{IsDone, owner_of, planned_targets}
use Rattle.make_core.proofs.state.CoreState.is_open_target.Given as goal

-- no place so far is open to the worker and names the file
abbrev pub invariant-loop-place : goal.invariant-loop-place
invariant-loop-place l =
    (from : ℕ) → from < l.place → IsDone l.self from ⊎ (owner_of l.self from ≡ Some l.worker) → Contains (planned_targets l.plan from) l.file.0 → ⊥
