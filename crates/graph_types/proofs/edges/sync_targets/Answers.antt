use Rattle.std.proofs.Common.{◌≡◌, ◌+◌, ◌++◌, take, sym, ap, ◌∙◌}
use Rattle.std.specs.Prelude.{filter_map, option_to_list}
use Rattle.graph_types.proofs.Numbering.{filter_map-next}
use Rattle.graph_types.specs.Edges.{sync_target}
use Rattle.graph_types.proofs.edges.sync_targets.Goals as goal

pub loop-item-preserved : goal.loop-item-preserved
loop-item-preserved c =
    let h = sync_target c.args.records.now in
    let items = c.as_slice-item-items.result.now in
    let place = c.loop-item.item-index in
    let front = filter_map h (take place items) in
    let more : filter_map h (take (place + 1) items) ≡ front ++ option_to_list c.sync_target.result =
    filter_map-next h items place c.item-item.result c.loop-item-test.true
    ∙ ap (λ item. front ++ option_to_list (h item)) (sym c.item-item.is)
    ∙ ap (λ target. front ++ option_to_list target) (sym c.sync_target.ensures) in
    c.in_ok-add_some.ensures ∙ ap (λ targets. targets ++ option_to_list c.sync_target.result) c.loop-item.invariant ∙ sym more
