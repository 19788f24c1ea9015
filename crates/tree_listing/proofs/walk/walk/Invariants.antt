use Rattle.std.proofs.Common.{◌≡◌, ◌-◌}
use Rattle.outside.specs.Tree.{Told}
use Rattle.tree_listing.specs.inner.Kept.{AreFound}
use Rattle.tree_listing.specs.inner.Walk.{HasWalkedTo}
use Rattle.tree_listing.proofs.walk.walk.Given as goal

abbrev pub invariant-loop-listed : goal.invariant-loop-listed
invariant-loop-listed g l = record {
  follows : g.R.TreeReader.follows l.initial.reader l.reader;
  log : (g.R.TreeReader.view l.reader).log ≡ (g.R.TreeReader.view l.initial.reader).log;
  found : AreFound l.kept.items;
  no_stray : Told (g.R.TreeReader.view l.initial.reader).tree (λ tree. (g.R.TreeReader.view l.reader).strays ≡ (g.R.TreeReader.view l.initial.reader).strays);
  told : Told (g.R.TreeReader.view l.initial.reader).tree (λ tree. HasWalkedTo tree (g.R.TreeReader.view l.initial.reader).listed l.listed l.kept.items (g.R.TreeReader.view l.reader));
}

abbrev pub decreases-loop-listed : goal.decreases-loop-listed
decreases-loop-listed g l = 1_048_577 - l.listed
