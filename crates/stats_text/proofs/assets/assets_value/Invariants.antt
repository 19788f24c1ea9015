use Rattle.std.proofs.Common.{◌≡◌, map, take}
use Rattle.serde_json.specs.View.{view}
use Rattle.stats_text.specs.Stats.{asset_stats}
use Rattle.stats_text.proofs.assets.assets_value.Given as goal

abbrev pub invariant-loop-asset : goal.invariant-loop-asset
invariant-loop-asset l = map view l.values.items ≡ map asset_stats (take l.asset-index l.assets)
