use Rattle.std.proofs.Common.{◌≡◌, length}
use Rattle.chunk_groups.specs.Grouped.{info_at}
use Rattle.avail_sets.specs.inner.Falling.{IsOpened, SaysWhich}
use Rattle.avail_sets.proofs.opening.set_opened.Given as goal

abbrev pub invariant-loop-g : goal.invariant-loop-g
invariant-loop-g l = (length l.row ≡ length l.groups.infos) × SaysWhich (λ g. IsOpened l.graph (info_at l.groups.infos g) l.modules) l.row l.g
