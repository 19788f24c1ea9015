use Rattle.std.proofs.Common.{[], length, slice_index, get_or, take, sym, ap, ◌∙◌, arith}
use Rattle.std.proofs.lemmas.List.FromFn.{get_or-map-range_with_len, length-map-range_with_len}
use Rattle.std.proofs.lemmas.List.Sums.{fold_more}
use Rattle.chunk_graph.specs.Moves.{joined, merged_into, merged_list}
use Rattle.chunk_graph.proofs.Lists.{has_at}
use Rattle.chunk_graph.proofs.merging.merged_list.Goals as goal

pub bounds-into-chunk : goal.bounds-into-chunk
bounds-into-chunk c =
    let size = ap length c.requires.into ∙ length-map-range_with_len (merged_into c.args.chunks.now) 0 (length c.args.chunks.now) in
    omega (arith, size, c.requires.within _ (has_at c.args.list.now c.loop-chunk.chunk-index (record { 0 = 0 }) c.loop-chunk-test.true))

pub loop-chunk-preserved : goal.loop-chunk-preserved
loop-chunk-preserved c =
    let chunks = c.args.chunks.now in
    let k = c.loop-chunk.chunk-index in
    let n = (get_or c.args.list.now k (record { 0 = 0 })).0 in
    let within = c.requires.within _ (has_at c.args.list.now k (record { 0 = 0 }) c.loop-chunk-test.true) in
    let target = ap (λ into. slice_index into n) c.requires.into
    ∙ get_or-map-range_with_len (merged_into chunks) 0 (length chunks) n n 0 within (omega arith) in
    c.in_ok-join.ensures.ok ∙ ap (joined (slice_index c.args.into.now n)) c.loop-chunk.invariant ∙ ap (λ j. joined j (merged_list chunks (take k c.args.list.now))) target
    ∙ sym (fold_more (λ before d. joined (merged_into chunks d.0) before) [] c.args.list.now k (record { 0 = 0 }) c.loop-chunk-test.true)
