use Rattle.std.proofs.Common.{◌≡◌, take}
use Rattle.std.specs.Prelude.{filter_map}
use Rattle.graph_types.specs.Modules.{module_of}
use Rattle.graph_types.proofs.modules.roots.Given as goal

abbrev pub invariant-loop-file : goal.invariant-loop-file
invariant-loop-file l = l.modules.items ≡ filter_map (module_of l.records) (take l.file-index l.entry)
