use Rattle.std.proofs.Common.{◌≡◌, length}
use Rattle.resolve_path.specs.inner.Parts.{replaced_by}
use Rattle.resolve_path.proofs.alias.replaced.Given as goal

-- the first is among those left
abbrev pub invariant-loop-left : goal.invariant-loop-left
invariant-loop-left l = replaced_by l.left l.request ≡ replaced_by l.aliases l.request

abbrev pub decreases-loop-left : goal.decreases-loop-left
decreases-loop-left l = length l.left
