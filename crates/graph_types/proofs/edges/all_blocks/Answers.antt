use Rattle.std.proofs.Common.{◌≡◌, ◌+◌, ◌++◌, take, sym, ap, ◌∙◌}
use Rattle.std.specs.List.{enumerate_from}
use Rattle.std.specs.Prelude.{flat_map}
use Rattle.graph_types.proofs.Numbering.{flat_map-more}
use Rattle.graph_types.specs.Edges.{blocks_in}
use Rattle.graph_types.proofs.edges.all_blocks.Goals as goal

pub loop-module-preserved : goal.loop-module-preserved
loop-module-preserved c =
    let f = blocks_in c.args.records.now in
    let records = c.args.records.now in
    let number = c.loop-module.module in
    let item = c.index-records-module.result in
    let front = flat_map f (enumerate_from 0 (take number records)) in
    let more : flat_map f (enumerate_from 0 (take (number + 1) records)) ≡ front ++ f (number, item) =
    flat_map-more f records number item c.loop-module-test.true
    ∙ ap (λ rec. front ++ f (number, rec)) (sym c.index-records-module.is) in
    c.in_ok-add_blocks.ensures ∙ ap (λ blocks. blocks ++ f (number, item)) c.loop-module.invariant ∙ sym more
