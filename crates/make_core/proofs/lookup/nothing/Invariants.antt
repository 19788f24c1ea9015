use Rattle.std.proofs.Common.{◌≡◌, None, replicate}
use Rattle.make_core.proofs.lookup.nothing.Given as goal

abbrev pub invariant-loop-place : goal.invariant-loop-place
invariant-loop-place g l = l.map.items ≡ replicate l._place None
