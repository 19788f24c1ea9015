use Rattle.std.proofs.Common.{◌≡◌, take}
use Rattle.std.specs.Prelude.{filter_map}
use Rattle.chunk_graph.specs.Moves.{id_of}
use Rattle.stats_text.proofs.ids.group_ids.Given as goal

abbrev pub invariant-loop-chunk : goal.invariant-loop-chunk
invariant-loop-chunk l = l.listed.items ≡ filter_map (λ c. id_of l.chunks c.0) (take l.chunk-index l.chunk-items)
