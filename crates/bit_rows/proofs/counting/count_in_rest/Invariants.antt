use Rattle.std.proofs.Common.{◌≡◌, ◌+◌, ◌*◌, ◌-◌, ◌≤◌, drop}
use Rattle.std.specs.List.{sum_by}
use Rattle.std.specs.Prelude.{count_ones}
use Rattle.bit_rows.proofs.counting.count_in_rest.Given as goal

abbrev pub invariant-loop-k : goal.invariant-loop-k
invariant-loop-k l = (l.total + sum_by count_ones (drop l.k l.words) ≡ sum_by count_ones (drop l.from l.words)) × (l.total ≤ 64 * (l.k - l.from))
