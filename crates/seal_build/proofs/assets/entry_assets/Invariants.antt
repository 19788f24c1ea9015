use Rattle.std.proofs.Common.{◌≡◌, ◌+◌, map}
use Rattle.std.specs.List.{range_with_len}
use Rattle.seal_build.specs.Assets.{asset_bytes, entry_asset, with_id}
use Rattle.seal_build.proofs.assets.entry_assets.Given as goal

abbrev pub invariant-loop-g : goal.invariant-loop-g
invariant-loop-g l = record {
  assets : l.made.assets.items ≡ map (entry_asset l.view) (range_with_len 0 l.g);
  names : l.made.names.items ≡ map (with_id l.view (entry_asset l.view)) (range_with_len 0 l.g);
  bytes : l.made.bytes ≡ l.later.bytes + asset_bytes l.made.assets.items;
}
