use Rattle.std.proofs.Common.{◌≡◌, ℕ, ◌-◌, ◌<◌, List, Bool, ◌∷◌, ◌++◌, length}
use Rattle.std.specs.Prelude.{IsTrue}
use Rattle.chunk_groups.specs.Net.{Net}
use Rattle.chunk_groups.specs.Rows.{bit_in}
use Rattle.avail_sets.specs.inner.Falling.{AreOpened}
use Rattle.avail_sets.specs.inner.Layers.{AreLayers, IsBest}
use Rattle.avail_sets.specs.Reasons.{group_numbers}
use Rattle.avail_sets.proofs.reasons.read_forward.Given as goal

abbrev pub invariant-loop-below : goal.invariant-loop-below
invariant-loop-below l = record {
  within : l.below < length l.layers;
  in_range : l.at < length l.opened.rows;
  reads : (net : Net) (g m : ℕ) (left : List Bool) → AreOpened net l.opened.rows → AreLayers net g m l.layers left → IsTrue (bit_in l.layers (length l.layers - 1) l.first)
      → (done : List ℕ) × (group_numbers l.members.items ≡ l.first ∷ done) × IsTrue (bit_in l.layers l.below l.at)
      × ((tail : List ℕ) → IsBest net g m l.at l.below tail → IsBest net g m l.first (length l.layers - 1) (done ++ tail));
}

abbrev pub decreases-loop-below : goal.decreases-loop-below
decreases-loop-below l = l.below
