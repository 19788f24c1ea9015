use Rattle.std.proofs.Common.{◌≡◌, false, length}
use Rattle.chunk_groups.specs.Rows.{bit_in}
use Rattle.avail_sets.specs.inner.Falling.{SaysWhich}
use Rattle.avail_sets.proofs.layering.lacking.Given as goal

abbrev pub invariant-loop-p : goal.invariant-loop-p
invariant-loop-p l = (length l.row ≡ length l.reach.rows) × SaysWhich (λ p. bit_in l.reach.rows p l.m ≡ false) l.row l.p
