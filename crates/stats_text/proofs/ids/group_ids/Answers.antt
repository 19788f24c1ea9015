use Rattle.std.proofs.Common.{◌≡◌, ◌+◌, ◌++◌, take, sym, ap, ◌∙◌}
use Rattle.std.specs.Prelude.{filter_map, option_to_list, Option, ℕ}
use Rattle.chunk_graph.specs.Moves.{chunk_no, id_of}
use Rattle.pack_util.specs.declared.number.ChunkNo.{ChunkNo}
use Rattle.graph_types.proofs.Numbering.{filter_map-next}
use Rattle.stats_text.proofs.Lists.{added}
use Rattle.stats_text.proofs.ids.group_ids.Goals as goal

pub loop-chunk-preserved : goal.loop-chunk-preserved
loop-chunk-preserved c =
    let h : ChunkNo → Option ℕ = λ chunk. id_of c.args.chunks.now chunk.0 in
    let list = c.chunks-chunk-items.result.now in
    let place = c.loop-chunk.chunk-index in
    let front = filter_map h (take place list) in
    let more : filter_map h (take (place + 1) list) ≡ front ++ option_to_list c.id_at.result =
    filter_map-next h list place (chunk_no 0) c.loop-chunk-test.true
    ∙ ap (λ found. front ++ option_to_list found) (sym c.id_at.ensures) in
    added c.loop-chunk.listed.items _ front (option_to_list c.id_at.result) _ c.in_ok-add_some.ensures c.loop-chunk.invariant more
