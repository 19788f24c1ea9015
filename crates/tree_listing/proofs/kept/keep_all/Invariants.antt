use Rattle.tree_listing.specs.inner.Kept.{HasKept}
use Rattle.tree_listing.proofs.kept.keep_all.Given as goal

abbrev pub invariant-loop-entry : goal.invariant-loop-entry
invariant-loop-entry l = HasKept l.folder l.yielded l.initial.kept.items l.kept.items
