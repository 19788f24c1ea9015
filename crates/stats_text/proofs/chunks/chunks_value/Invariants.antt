use Rattle.std.proofs.Common.{◌≡◌, map}
use Rattle.std.specs.Prelude.{filter_map}
use Rattle.std.specs.List.{range_with_len}
use Rattle.serde_json.specs.View.{view}
use Rattle.stats_text.specs.Stats.{chunk_told}
use Rattle.stats_text.proofs.chunks.chunks_value.Given as goal

abbrev pub invariant-loop-place : goal.invariant-loop-place
invariant-loop-place l = map view l.values.items ≡ filter_map (chunk_told l.graph.records l.chunks) (range_with_len 0 l.place)
