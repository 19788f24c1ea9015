use Rattle.std.proofs.Common.{◌≡◌, ◌<◌, ℕ, [], length, get_or}
use Rattle.chunk_groups.specs.Grouped.{info_at}
use Rattle.avail_sets.specs.inner.Falling.{first_row}
use Rattle.avail_sets.proofs.starting.first_rows.Given as goal

abbrev pub invariant-loop-g : goal.invariant-loop-g
invariant-loop-g l = record {
  rows : length l.table.rows ≡ length l.groups.infos;
  wide : l.table.width ≡ l.width;
  each : (k : ℕ) → k < l.g → get_or l.table.rows k [] ≡ first_row (info_at l.groups.infos k) l.width;
}
