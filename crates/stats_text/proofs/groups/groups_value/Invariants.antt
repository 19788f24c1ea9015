use Rattle.std.proofs.Common.{◌≡◌, map, take}
use Rattle.std.specs.List.{enumerate_from}
use Rattle.serde_json.specs.View.{view}
use Rattle.stats_text.specs.Stats.{group_stats}
use Rattle.stats_text.proofs.groups.groups_value.Given as goal

abbrev pub invariant-loop-place : goal.invariant-loop-place
invariant-loop-place l = map view l.values.items ≡ map (group_stats l.chunks) (enumerate_from 0 (take l.place l.groups.infos))
