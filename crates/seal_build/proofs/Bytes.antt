-- How many bytes assets have.
use Rattle.std.proofs.Common.{◌≡◌, ℕ, ◌+◌, ◌<◌, true, List, [], ◌∷◌, ◌++◌, length, map, filter, ap, inl, inr, arith}
use Rattle.std.specs.List.{range_with_len}
use Rattle.std.proofs.lemmas.List.Sums.{sum_by-append, sum_by_push}
use Rattle.chunk_graph.specs.Chunks.{chunk_at}
use Rattle.module_code.specs.View.{Sealing}
use Rattle.outside.specs.declared.asset_sink.Asset.{Asset}
use Rattle.seal_build.specs.Assets.{asset_bytes, chunk_assets, entry_asset, entry_chunks, is_later, later_asset, later_chunks}
use Rattle.seal_build.specs.inner.Adding.{IsTooLarge, IsTooLong}
use Rattle.seal_build.specs.declared.seal_end.SealEnd.{SealEnd}
use Rattle.seal_build.proofs.Growing.{picked-within, ranged-within}

pub more_bytes : (asset : Asset) (bytes more : ℕ) (old new : List Asset) → bytes ≡ asset_bytes old → new ≡ old ++ asset ∷ [] → more ≡ bytes + length asset.bytes → more ≡ asset_bytes new
more_bytes asset bytes more old new before next is = omega (arith, before, is, ap asset_bytes next, sum_by_push (λ one. length one.bytes) old asset)

pub more_behind : (first : ℕ) (asset : Asset) (bytes more : ℕ) (old new : List Asset) → bytes ≡ first + asset_bytes old → new ≡ old ++ asset ∷ [] → more ≡ bytes + length asset.bytes
    → more ≡ first + asset_bytes new
more_behind first asset bytes more old new before next is = omega (arith, before, is, ap asset_bytes next, sum_by_push (λ one. length one.bytes) old asset)

all_bytes : (view : Sealing) → asset_bytes (chunk_assets view) ≡ asset_bytes (map (later_asset view) (later_chunks view.chunks)) + asset_bytes (map (entry_asset view) (entry_chunks view))
all_bytes view = sum_by-append (λ one. length one.bytes) (map (later_asset view) (later_chunks view.chunks)) (map (entry_asset view) (entry_chunks view))

pub later-too-large : (view : Sealing) (n bytes : ℕ) (made : List Asset) → n < length view.chunks.chunks → is_later (chunk_at view.chunks n) ≡ true → bytes ≡ asset_bytes made
    → made ≡ map (later_asset view) (filter (λ c. is_later (chunk_at view.chunks c)) (range_with_len 0 n)) → (end : SealEnd) → IsTooLong bytes (later_asset view n) end → IsTooLarge view end
later-too-large view n bytes made within later counted are end (inl none) = inl none
later-too-large view n bytes made within later counted are end (inr (limit, above)) =
    let size : Asset → ℕ = λ asset. length asset.bytes in
    let more = picked-within size (later_asset view) (λ c. is_later (chunk_at view.chunks c)) n (length view.chunks.chunks) later within in
    inr (limit, omega (arith, above, counted, ap asset_bytes are, more, all_bytes view))

pub entry-too-large : (view : Sealing) (g bytes first : ℕ) (made : List Asset) → g < length view.config.entries → first ≡ asset_bytes (map (later_asset view) (later_chunks view.chunks))
    → bytes ≡ first + asset_bytes made → made ≡ map (entry_asset view) (range_with_len 0 g) → (end : SealEnd) → IsTooLong bytes (entry_asset view g) end → IsTooLarge view end
entry-too-large view g bytes first made within before counted are end (inl none) = inl none
entry-too-large view g bytes first made within before counted are end (inr (limit, above)) =
    let size : Asset → ℕ = λ asset. length asset.bytes in
    let more = ranged-within size (entry_asset view) g (length view.config.entries) within in
    inr (limit, omega (arith, above, before, counted, ap asset_bytes are, more, all_bytes view))
