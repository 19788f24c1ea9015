use Rattle.std.proofs.Common.{◌≡◌, take}
use Rattle.std.specs.Prelude.{filter_map}
use Rattle.graph_types.specs.Edges.{sync_target}
use Rattle.graph_types.proofs.edges.sync_targets.Given as goal

abbrev pub invariant-loop-item : goal.invariant-loop-item
invariant-loop-item l = l.targets.items ≡ filter_map (sync_target l.records) (take l.item-index l.item-items)
