use Rattle.std.proofs.Common.{◌≡◌, ◌+◌, map, drop}
use Rattle.form_shapes.specs.Parts.{long_ones}
use Rattle.form_shapes.proofs.declaration.long_ones.Given as goal

abbrev pub invariant-loop-tail : goal.invariant-loop-tail
invariant-loop-tail l =
    (long_ones l.size (map (λ tail. tail.now) l.tails) ≡ l.count + long_ones l.size (map (λ tail. tail.now) (drop l.tail-index l.tails)))
    × (l.count ≡ l.tail-index)
