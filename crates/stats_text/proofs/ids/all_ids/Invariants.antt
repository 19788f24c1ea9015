use Rattle.std.proofs.Common.{◌≡◌, ◌≤◌, not, map, take}
use Rattle.std.specs.List.{count_by, range_with_len}
use Rattle.chunk_graph.specs.Moves.{id_of}
use Rattle.stats_text.proofs.ids.all_ids.Given as goal

abbrev pub invariant-loop-place : goal.invariant-loop-place
invariant-loop-place l = record {
  ids : l.ids.items ≡ map (id_of l.chunks) (range_with_len 0 l.place);
  next : l.next ≡ count_by (λ c. not c.gone) (take l.place l.chunks.chunks);
  low : l.next ≤ l.place;
}
