use Rattle.std.proofs.Common.{◌≡◌, ◌&&◌, ℕ, [], false, get_or}
use Rattle.std.specs.List.{list_any, range_with_len}
use Rattle.chunk_graph.specs.Moves.{same_row}
use Rattle.split_plan.specs.Shares.{meets}
use Rattle.split_plan.proofs.claims.is_share.Given as goal

abbrev pub invariant-loop-module : goal.invariant-loop-module
invariant-loop-module l = list_any (λ (m : ℕ). meets l.rule m && same_row (get_or l.shares m []) l.set) (range_with_len 0 l.«module») ≡ false
