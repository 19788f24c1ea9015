use Rattle.std.proofs.Common.{◌≡◌, ◌≤◌, ◌-◌, length, take, sum}
use Rattle.split_plan.specs.Candidates.{sizes_in}
use Rattle.split_plan.proofs.form.size_of.Given as goal

abbrev pub invariant-loop-module : goal.invariant-loop-module
invariant-loop-module l = record {
  bound : l.at ≤ length l.row;
  total : l.total ≡ sum (take l.at (sizes_in l.sizes l.row));
}

abbrev pub decreases-loop-module : goal.decreases-loop-module
decreases-loop-module l = length l.row - l.at
