use Rattle.std.proofs.Common.{◌≡◌, ◌-◌, length}
use Rattle.std.specs.Ordering.{nat_cmp}
use Rattle.std.specs.Cmp.Lexicographic.{slice_cmp}
use Rattle.split_plan.specs.Order.{places}
use Rattle.split_plan.specs.inner.Rows.{places_from}
use Rattle.split_plan.proofs.compare.compare_places.Given as goal

abbrev pub invariant-loop-place : goal.invariant-loop-place
invariant-loop-place l = slice_cmp nat_cmp (places l.row) (places l.other) ≡ slice_cmp nat_cmp (places_from l.at l.row) (places_from l.at l.other)

abbrev pub decreases-loop-place : goal.decreases-loop-place
decreases-loop-place l = length l.row - l.at
