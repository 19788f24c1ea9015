use Rattle.std.proofs.Common.{◌≡◌, ◌-◌, ◌++◌, length, map}
use Rattle.chunk_graph.specs.Moves.{chunk_no}
use Rattle.split_plan.specs.Order.{places}
use Rattle.split_plan.specs.inner.Rows.{places_from}
use Rattle.split_chunks.proofs.lists.chunk_numbers.Given as goal

abbrev pub invariant-loop-place : goal.invariant-loop-place
invariant-loop-place l = map chunk_no (places l.row) ≡ l.list.items ++ map chunk_no (places_from l.at l.row)

abbrev pub decreases-loop-place : goal.decreases-loop-place
decreases-loop-place l = length l.row - l.at
