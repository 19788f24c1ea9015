use Rattle.std.proofs.Common.{◌≡◌, ◌<◌, ◌-◌, length}
use Rattle.std.specs.Prelude.{IsTrue}
use Rattle.chunk_groups.specs.Rows.{bit}
use Rattle.avail_sets.specs.inner.Falling.{IsHandedDown}
use Rattle.avail_sets.proofs.falling.hand_down.Given as goal

abbrev pub invariant-loop-g : goal.invariant-loop-g
invariant-loop-g l =
    (length l.spare ≡ l.initial.avail.width) × IsHandedDown (λ k. IsTrue (bit l.opened k) × (k < l.at)) l.down l.initial.avail l.avail l.initial.pending l.pending

abbrev pub decreases-loop-g : goal.decreases-loop-g
decreases-loop-g l = l.end - l.at
