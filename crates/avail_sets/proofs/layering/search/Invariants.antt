use Rattle.std.proofs.Common.{◌≡◌, ℕ, length}
use Rattle.std.specs.Prelude.{IsTrue}
use Rattle.chunk_groups.specs.Net.{Net}
use Rattle.avail_sets.specs.inner.Falling.{AreOpened, SaysWhich, trues}
use Rattle.avail_sets.specs.inner.Layers.{AreEven, AreLayers}
use Rattle.avail_sets.proofs.layering.search.Given as goal

abbrev pub invariant-deepen : goal.invariant-deepen
invariant-deepen l = record {
  sized : AreEven l.opened l.entries l.left l.layers.items;
  layered : (net : Net) (g m : ℕ) → AreOpened net l.opened.rows → length l.entries ≡ net.groups → SaysWhich (λ p. IsTrue (net.is_entry p)) l.entries net.groups
      → AreLayers net g m l.initial.layers.items l.initial.left → AreLayers net g m l.layers.items l.left;
}

abbrev pub decreases-deepen : goal.decreases-deepen
decreases-deepen l = trues l.left
