use Rattle.std.proofs.Common.{◌≡◌, map, take}
use Rattle.std.specs.List.{enumerate_from}
use Rattle.serde_json.specs.View.{view}
use Rattle.stats_text.specs.Stats.{module_told}
use Rattle.stats_text.proofs.modules.modules_value.Given as goal

abbrev pub invariant-loop-place : goal.invariant-loop-place
invariant-loop-place l = map view l.modules.items ≡ map (module_told l.named l.groups l.graph.records) (enumerate_from 0 (take l.place l.graph.records))
