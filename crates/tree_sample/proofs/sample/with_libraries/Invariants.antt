use Rattle.std.proofs.Common.{◌≡◌}
use Rattle.tree_sample.specs.Sample.{libraries}
use Rattle.tree_sample.proofs.sample.with_libraries.Given as goal

abbrev pub invariant-loop-k : goal.invariant-loop-k
invariant-loop-k l = l.tree ≡ libraries l.k
