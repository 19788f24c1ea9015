use Rattle.std.proofs.Common.{[], false, length, arith}
use Rattle.std.proofs.lemmas.List.FromFn.{fill_by_all}
use Rattle.chunk_graph.specs.Chunks.{holds}
use Rattle.split_plan.specs.inner.Rows.{column}
use Rattle.split_plan.proofs.columns.chunk_columns.Goals as goal

pub returns : goal.returns
returns c =
    let s = c.args.state.now in
    fill_by_all (column s) c.loop-chunk.columns.items c.args.width [] c.loop-chunk.invariant.len
    (λ m lt. fill_by_all (λ i. holds s i m) _ (length s.chunks) false (c.loop-chunk.invariant.lens m lt)
    (λ i l. c.loop-chunk.invariant.here m i lt (omega arith)))
