use Rattle.std.proofs.Common.{◌≡◌, take}
use Rattle.std.specs.Prelude.{flat_map}
use Rattle.outside.specs.declared.asset_sink.Asset.{Asset}
use Rattle.pack_run.proofs.sample_line.all_bytes.Given as goal

abbrev pub invariant-loop-asset : goal.invariant-loop-asset
invariant-loop-asset l = l.bytes.items ≡ flat_map (λ (asset : Asset). asset.bytes) (take l.asset-index l.assets)
