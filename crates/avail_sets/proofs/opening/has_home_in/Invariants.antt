use Rattle.std.proofs.Common.{◌≡◌, ◌<◌, ℕ, false, get_or}
use Rattle.graph_types.specs.Edges.{blocks_of}
use Rattle.chunk_groups.specs.Grouped.{home_of}
use Rattle.chunk_groups.specs.Rows.{bit}
use Rattle.avail_sets.proofs.opening.has_home_in.Given as goal

abbrev pub invariant-loop-b : goal.invariant-loop-b
invariant-loop-b l = (k : ℕ) → k < l.b-index → bit l.modules (home_of (blocks_of l.graph.records) (get_or l.b-items k 0)) ≡ false
