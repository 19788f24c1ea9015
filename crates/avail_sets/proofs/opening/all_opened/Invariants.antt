use Rattle.std.proofs.Common.{◌≡◌, ◌<◌, ℕ, length}
use Rattle.std.specs.Prelude.{◌↔◌, IsTrue}
use Rattle.chunk_groups.specs.Grouped.{net_of}
use Rattle.chunk_groups.specs.Rows.{bit_in}
use Rattle.chunk_groups.specs.Serving.{Opens}
use Rattle.avail_sets.proofs.opening.all_opened.Given as goal

abbrev pub invariant-loop-p : goal.invariant-loop-p
invariant-loop-p l = record {
  rows : length l.table.rows ≡ length l.groups.infos;
  width : l.table.width ≡ length l.groups.infos;
  spare : length l.row ≡ length l.groups.infos;
  opened : (k g : ℕ) → k < l.p → IsTrue (bit_in l.table.rows k g) ↔ Opens (net_of l.graph l.groups.infos) k g;
}
