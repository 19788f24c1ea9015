use Rattle.std.proofs.Common.{◌≡◌, ◌+◌, length}
use Rattle.chunk_groups.specs.Net.{Net}
use Rattle.chunk_groups.specs.Rows.{bit_in}
use Rattle.chunk_groups.specs.Serving.{Holds}
use Rattle.avail_sets.specs.inner.Falling.{AreOpened, AreSized, IsFalling, all_trues, trues}
use Rattle.avail_sets.proofs.falling.fall.Given as goal

abbrev pub invariant-loop-p : goal.invariant-loop-p
invariant-loop-p l = record {
  sized : AreSized l.opened l.brought l.avail l.pending l.down l.spare;
  width : l.avail.width ≡ l.initial.avail.width;
  places : length l.pending ≡ length l.initial.pending;
  falling : (net : Net) → AreOpened net l.opened.rows → length l.initial.pending ≡ net.groups → IsFalling net (Holds (bit_in l.brought.rows)) l.initial.avail.width l.initial.avail.rows l.initial.pending
      → IsFalling net (Holds (bit_in l.brought.rows)) l.initial.avail.width l.avail.rows l.pending;
}

abbrev pub decreases-loop-p : goal.decreases-loop-p
decreases-loop-p l = all_trues l.avail.rows + trues l.pending
