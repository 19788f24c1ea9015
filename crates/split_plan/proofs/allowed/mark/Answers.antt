use Rattle.std.proofs.Common.{◌<◌, true, get_or, length, ap, ◌∙◌, arith}
use Rattle.std.proofs.lemmas.List.{length-set}
use Rattle.chunk_graph.specs.Chunks.{is_in}
use Rattle.chunk_graph.proofs.Lists.{has_at}
use Rattle.split_plan.proofs.Places.{mark_more}
use Rattle.split_plan.proofs.allowed.mark.Goals as goal

pub set-requires : goal.set-requires
set-requires c =
    omega (arith, c.loop-chunk.invariant.len, c.requires _ (has_at c.args.list.now c.loop-chunk.chunk-index (record { 0 = 0 }) c.loop-chunk-test.true))

pub loop-chunk-preserved : goal.loop-chunk-preserved
loop-chunk-preserved c =
    let k = c.loop-chunk.chunk-index in
    let n = (get_or c.args.list.now k (record { 0 = 0 })).0 in
    let within : n < length c.loop-chunk.row = omega (arith, c.loop-chunk.invariant.len, c.requires _ (has_at c.args.list.now k (record { 0 = 0 }) c.loop-chunk-test.true)) in
    record {
      len = ap length c.set.ensures ∙ length-set c.loop-chunk.row n true ∙ c.loop-chunk.invariant.len;
      places = λ i. ap (λ row. is_in row i) c.set.ensures
          ∙ mark_more c.args.row.now c.loop-chunk.row c.args.list.now k i (record { 0 = 0 }) c.loop-chunk-test.true within (c.loop-chunk.invariant.places i);
    }
