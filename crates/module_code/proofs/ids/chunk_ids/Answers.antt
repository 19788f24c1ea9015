use Rattle.std.proofs.Common.{◌≡◌, ◌+◌, ◌++◌, None, get_or, take, sym, ap, ◌∙◌}
use Rattle.std.specs.Prelude.{filter_map, option_to_list}
use Rattle.chunk_graph.specs.Moves.{chunk_no, id_of}
use Rattle.pack_util.specs.declared.number.ChunkNo.{ChunkNo}
use Rattle.graph_types.proofs.Numbering.{filter_map-next}
use Rattle.module_code.proofs.IdTable.{id_in_table}
use Rattle.module_code.proofs.ids.chunk_ids.Goals as goal

pub loop-chunk-preserved : goal.loop-chunk-preserved
loop-chunk-preserved c =
    let h = λ (chunk : ChunkNo). id_of c.args.chunks.now chunk.0 in
    let list = c.args.list.now in
    let place = c.loop-chunk.chunk-index in
    let front = filter_map h (take place list) in
    let chunk = get_or list place (chunk_no 0) in
    let found : c.id_at.result ≡ h chunk =
    c.id_at.ensures ∙ ap (λ ids. get_or ids chunk.0 None) (c.deref.ensures.value ∙ c.in_ok-all.ensures) ∙ id_in_table c.args.chunks.now chunk.0 in
    let more : filter_map h (take (place + 1) list) ≡ front ++ option_to_list c.id_at.result =
    filter_map-next h list place (chunk_no 0) c.loop-chunk-test.true
    ∙ ap (λ found. front ++ option_to_list found) (sym found) in
    c.in_ok-add_some.ensures ∙ ap (λ ids. ids ++ option_to_list c.id_at.result) c.loop-chunk.invariant ∙ sym more
