use Rattle.std.proofs.Common.{◌≡◌, length}
use Rattle.std.specs.Prelude.{IsTrue, is_some}
use Rattle.chunk_groups.specs.Grouped.{info_at}
use Rattle.avail_sets.specs.inner.Falling.{SaysWhich}
use Rattle.avail_sets.proofs.starting.entries.Given as goal

abbrev pub invariant-loop-g : goal.invariant-loop-g
invariant-loop-g l = (length l.row ≡ length l.groups.infos) × SaysWhich (λ g. IsTrue (is_some (info_at l.groups.infos g).entry)) l.row l.g
