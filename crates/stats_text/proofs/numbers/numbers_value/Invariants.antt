use Rattle.std.proofs.Common.{◌≡◌, map, take}
use Rattle.serde_json.specs.View.{view}
use Rattle.stats_text.specs.Stats.{number_stats}
use Rattle.stats_text.proofs.numbers.numbers_value.Given as goal

abbrev pub invariant-loop-one : goal.invariant-loop-one
invariant-loop-one g l = map view l.numbers.items ≡ map (λ t. number_stats (g.T.Numbered.number_of t)) (take l.one-index l.members)
