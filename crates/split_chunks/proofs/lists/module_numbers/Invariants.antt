use Rattle.std.proofs.Common.{◌≡◌, ◌-◌, ◌++◌, length, map}
use Rattle.graph_types.specs.Modules.{module_no}
use Rattle.split_plan.specs.Order.{places}
use Rattle.split_plan.specs.inner.Rows.{places_from}
use Rattle.split_chunks.proofs.lists.module_numbers.Given as goal

abbrev pub invariant-loop-place : goal.invariant-loop-place
invariant-loop-place l = map module_no (places l.row) ≡ l.list.items ++ map module_no (places_from l.at l.row)

abbrev pub decreases-loop-place : goal.decreases-loop-place
decreases-loop-place l = length l.row - l.at
