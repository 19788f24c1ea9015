use Rattle.std.proofs.Common.{◌≡◌, map, take}
use Rattle.graph_types.specs.Edges.{sync_targets_of}
use Rattle.graph_types.proofs.edges.all_sync_targets.Given as goal

abbrev pub invariant-loop-record : goal.invariant-loop-record
invariant-loop-record l = l.all.items ≡ map (sync_targets_of l.records) (take l.record-index l.records)
