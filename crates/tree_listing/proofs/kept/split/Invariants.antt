use Rattle.tree_listing.specs.inner.Split.{IsSplit}
use Rattle.tree_listing.proofs.kept.split.Given as goal

abbrev pub invariant-loop-entry : goal.invariant-loop-entry
invariant-loop-entry l = IsSplit l.yielded l.files.items l.folders.items
