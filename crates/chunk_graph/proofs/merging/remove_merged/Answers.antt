use Rattle.std.proofs.Common.{not, ◌||◌, ◌==◌, length, slice_index, get_or, ap, ◌∙◌, arith}
use Rattle.std.proofs.lemmas.List.FromFn.{fill_by_all, get_or-map-range_with_len, length-map-range_with_len}
use Rattle.chunk_graph.specs.Chunks.{no_chunk}
use Rattle.chunk_graph.specs.Moves.{merged_into, merged_chunk}
use Rattle.chunk_graph.proofs.merging.remove_merged.Goals as goal

pub index_mut-requires : goal.index_mut-requires
index_mut-requires c =
    let size = ap length c.requires ∙ length-map-range_with_len (merged_into c.args.chunks.now.items) 0 (length c.args.chunks.now.items) in
    omega (arith, size)

pub returns : goal.returns
returns c =
    let chunks = c.args.chunks.now.items in
    let size = ap length c.requires ∙ length-map-range_with_len (merged_into chunks) 0 (length chunks) in
    fill_by_all (merged_chunk chunks) c.loop-place.chunks.items (length chunks) no_chunk c.loop-place.invariant.len
    (λ k lt. c.loop-place.invariant.done k (omega (arith, size))
    ∙ ap (λ n. record (get_or chunks k no_chunk) { gone = (get_or chunks k no_chunk).gone || not (n == k) })
    (ap (λ into. slice_index into k) c.requires ∙ get_or-map-range_with_len (merged_into chunks) 0 (length chunks) k k 0 lt (omega arith)))
