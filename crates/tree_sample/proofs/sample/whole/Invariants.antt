use Rattle.std.proofs.Common.{◌≡◌}
use Rattle.tree_sample.specs.Sample.{sample_to}
use Rattle.tree_sample.proofs.sample.whole.Given as goal

abbrev pub invariant-loop-i : goal.invariant-loop-i
invariant-loop-i l = l.tree ≡ sample_to l.n l.i
