use Rattle.std.proofs.Common.{ℕ, ◌<◌}
use Rattle.chunk_groups.specs.Grouped.{IsOver, info_at}
use Rattle.chunk_groups.proofs.over.are_over.Given as goal

abbrev pub invariant-loop-g : goal.invariant-loop-g
invariant-loop-g l = (k : ℕ) → k < l.g → IsOver l.graph (info_at l.groups.infos k)
