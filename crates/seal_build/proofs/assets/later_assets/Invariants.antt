use Rattle.std.proofs.Common.{◌≡◌, map, filter}
use Rattle.std.specs.List.{range_with_len}
use Rattle.chunk_graph.specs.Chunks.{chunk_at}
use Rattle.seal_build.specs.Assets.{asset_bytes, is_later, later_asset, with_id}
use Rattle.seal_build.proofs.assets.later_assets.Given as goal

abbrev pub invariant-loop-place : goal.invariant-loop-place
invariant-loop-place l = record {
  assets : l.made.assets.items ≡ map (later_asset l.view) (filter (λ c. is_later (chunk_at l.view.chunks c)) (range_with_len 0 l.place));
  names : l.made.names.items ≡ map (with_id l.view (later_asset l.view)) (filter (λ c. is_later (chunk_at l.view.chunks c)) (range_with_len 0 l.place));
  bytes : l.made.bytes ≡ asset_bytes l.made.assets.items;
}
