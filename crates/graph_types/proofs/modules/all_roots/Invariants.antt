use Rattle.std.proofs.Common.{◌≡◌, map, take}
use Rattle.std.specs.Prelude.{filter_map}
use Rattle.graph_types.specs.Modules.{module_of}
use Rattle.graph_types.proofs.modules.all_roots.Given as goal

abbrev pub invariant-loop-entry : goal.invariant-loop-entry
invariant-loop-entry l = l.all.items ≡ map (filter_map (module_of l.records)) (take l.entry-index l.entries)
