use Rattle.std.proofs.Common.{◌≡◌, map, take}
use Rattle.serde_json.specs.View.{view}
use Rattle.stats_text.specs.Stats.{split_stats}
use Rattle.stats_text.proofs.splits.splits_value.Given as goal

abbrev pub invariant-loop-split : goal.invariant-loop-split
invariant-loop-split l = map view l.values.items ≡ map (split_stats l.config) (take l.split-index l.splits)
