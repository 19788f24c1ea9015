use Rattle.std.proofs.Common.{◌≡◌, ◌<◌, ℕ, [], length, get_or}
use Rattle.bit_rows.specs.Places.{minus}
use Rattle.avail_sets.proofs.placing.place.Given as goal

abbrev pub invariant-loop-g : goal.invariant-loop-g
invariant-loop-g l = record {
  rows : length l.table.rows ≡ length l.reach.rows;
  width : l.table.width ≡ l.reach.width;
  spare : length l.row ≡ l.reach.width;
  placed : (k : ℕ) → k < l.g → get_or l.table.rows k [] ≡ minus (get_or l.reach.rows k []) (get_or l.avail.rows k []);
}
