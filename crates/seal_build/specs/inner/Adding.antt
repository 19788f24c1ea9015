-- One more asset, and why it may not come (this project).
use Rattle.std.specs.Prelude.{◌≡◌, ℕ, ◌+◌, ◌<◌, ◌⊎◌, [], ◌∷◌, ◌++◌, length}
use Rattle.fault_place.specs.declared.limit.Limit.TheVariants.{OutputBytes}
use Rattle.fault_place.specs.Limit.{number_of}
use Rattle.module_code.specs.View.{Sealing}
use Rattle.outside.specs.declared.asset_sink.Asset.{Asset}
use Rattle.seal_build.specs.Assets.{asset_bytes, chunk_assets}
use Rattle.seal_build.specs.declared.naming.NamedAssets.{NamedAssets}
use Rattle.seal_build.specs.declared.seal_end.SealEnd.{SealEnd}
use Rattle.seal_build.specs.declared.seal_end.SealEnd.TheVariants.{Limit, NoMemory}

-- the asset of the chunk with an id stands behind the others, and is counted
pub record IsAdded (before now : NamedAssets) (id : ℕ) (asset : Asset) : Type 0 where
  pub assets : now.assets.items ≡ before.assets.items ++ asset ∷ []
  pub names : now.names.items ≡ before.names.items ++ (id, asset.name) ∷ []
  pub bytes : now.bytes ≡ before.bytes + length asset.bytes

-- memory ran out, or the asset's bytes and those before are more than the limit allows
abbrev pub IsTooLong : ℕ → Asset → SealEnd → Type 0
IsTooLong bytes asset end = (end ≡ NoMemory) ⊎ ((end ≡ Limit OutputBytes) × (number_of OutputBytes < bytes + length asset.bytes))

-- memory ran out, or all assets have more bytes than the limit allows
abbrev pub IsTooLarge : Sealing → SealEnd → Type 0
IsTooLarge view end = (end ≡ NoMemory) ⊎ ((end ≡ Limit OutputBytes) × (number_of OutputBytes < asset_bytes (chunk_assets view)))
