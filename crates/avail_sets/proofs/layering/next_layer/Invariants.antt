use Rattle.std.proofs.Common.{◌≡◌, ℕ, length}
use Rattle.std.specs.Prelude.{IsTrue}
use Rattle.chunk_groups.specs.Rows.{bit, bit_in}
use Rattle.avail_sets.specs.inner.Falling.{SaysWhich}
use Rattle.avail_sets.proofs.layering.next_layer.Given as goal

abbrev pub invariant-loop-p : goal.invariant-loop-p
invariant-loop-p l =
    (length l.next ≡ length l.left) × SaysWhich (λ p. IsTrue (bit l.left p) × ((q : ℕ) × IsTrue (bit l.layer q) × IsTrue (bit_in l.opened.rows p q))) l.next l.p
