use Rattle.std.proofs.Common.{ap, ◌∙◌}
use Rattle.std.specs.Prelude.{filter_map}
use Rattle.graph_types.specs.Edges.{blocks_of}
use Rattle.chunk_groups.specs.NameFaults.{block_fault, cache_group_fault}
use Rattle.chunk_groups.proofs.Adding.{added-behind}
use Rattle.chunk_groups.proofs.taken.name_faults.Goals as goal

pub loop-group-preserved : goal.loop-group-preserved
loop-group-preserved c =
    let records = c.args.graph.now.records in
    let fault = cache_group_fault c.args.config_path.now c.args.config.now.entries c.args.names.now in
    added-behind fault c.as_slice-group-items.result.now c.loop-group.group-index c.group-item.result c.loop-group-test.true
    (filter_map (block_fault records c.args.config.now.entries) (blocks_of records)) _ _ _ c.in_ok-add_some.ensures c.loop-group.invariant
    (c.in_ok-cache_group_fault.ensures ∙ ap (λ entries. cache_group_fault c.args.config_path.now entries c.args.names.now c.group-item.result) c.as_slice-entries.ensures ∙ ap fault c.group-item.is)
