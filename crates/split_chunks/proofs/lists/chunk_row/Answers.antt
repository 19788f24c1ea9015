use Rattle.std.proofs.Common.{◌||◌, ◌==◌, false, get_or, sym, ap, ◌∙◌, arith}
use Rattle.std.proofs.lemmas.List.{take_all}
use Rattle.std.proofs.lemmas.List.Folds.{list_any_more}
use Rattle.std.proofs.lemmas.List.FromFn.{fill_by_all}
use Rattle.chunk_graph.specs.Chunks.{has}
use Rattle.split_chunks.proofs.lists.chunk_row.Goals as goal

pub loop-chunk-preserved : goal.loop-chunk-preserved
loop-chunk-preserved c =
    let k = c.loop-chunk.chunk-index in
    let list = c.args.list.now in
    record {
      len = c.set_within.ensures.len ∙ c.loop-chunk.invariant.len;
      places = λ i lt. c.set_within.ensures.places i (omega (arith, c.loop-chunk.invariant.len))
          ∙ ap (λ b. b || ((get_or list k (record { 0 = 0 })).0 == i)) (c.loop-chunk.invariant.places i lt)
          ∙ sym (list_any_more (λ d. d.0 == i) list k (record { 0 = 0 }) c.loop-chunk-test.true);
    }

pub returns : goal.returns
returns c =
    let list = c.args.list.now in
    fill_by_all (λ i. has i list) c.loop-chunk.row c.args.len false c.loop-chunk.invariant.len
    (λ i lt. c.loop-chunk.invariant.places i lt ∙ ap (has i) (take_all c.loop-chunk.chunk-index list (omega arith)))
