use Rattle.std.proofs.Common.{◌≡◌, ◌+◌, ◌++◌, append_assoc, take, sym, ap, ◌∙◌}
use Rattle.std.specs.List.{enumerate_from}
use Rattle.std.specs.Prelude.{filter_map, option_to_list}
use Rattle.graph_types.proofs.Numbering.{filter_map-more}
use Rattle.graph_types.specs.Edges.{block_of}
use Rattle.graph_types.proofs.edges.add_blocks.Goals as goal

pub loop-number-preserved : goal.loop-number-preserved
loop-number-preserved c =
    let h = block_of c.args.records.now c.args.module in
    let items = c.as_slice-item-items.result.now in
    let number = c.loop-number.number in
    let front = filter_map h (enumerate_from 0 (take number items)) in
    let more : filter_map h (enumerate_from 0 (take (number + 1) items)) ≡ front ++ option_to_list c.block.result =
    filter_map-more h items number c.item-item.result c.loop-number-test.true
    ∙ ap (λ item. front ++ option_to_list (h (number, item))) (sym c.item-item.is)
    ∙ ap (λ block. front ++ option_to_list block) (sym c.block.ensures) in
    c.in_ok-add_some.ensures ∙ ap (λ blocks. blocks ++ option_to_list c.block.result) c.loop-number.invariant
    ∙ append_assoc c.args.blocks.now.items front (option_to_list c.block.result) ∙ ap (λ rest. c.args.blocks.now.items ++ rest) (sym more)
