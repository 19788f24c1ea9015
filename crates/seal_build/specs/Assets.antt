-- The assets of a build (this project): a file for each chunk that isn't gone, and the stats.
use Rattle.std.specs.Prelude.{ℕ, Bool, not, ◌&&◌, ◌++◌, List, length, map, filter}
use Rattle.std.specs.List.{range_with_len, sum_by}
use Rattle.asset_names.specs.Names.{name_from}
use Rattle.chunk_code.specs.Texts.{chunk_text_of, entry_text_of, shown_id}
use Rattle.chunk_graph.specs.Chunks.{State, chunk_at}
use Rattle.chunk_graph.specs.declared.chunk.Chunk.{Chunk}
use Rattle.chunk_graph.specs.declared.split.Split.{Split}
use Rattle.graph_types.specs.declared.template.Template.{Template}
use Rattle.module_code.specs.View.{Sealing}
use Rattle.outside.specs.Sinks.{asset}
use Rattle.outside.specs.declared.asset_sink.Asset.{Asset}
use Rattle.stats_text.specs.Stats.{stats_text_of}

-- the asset of a chunk with this text, named by a template (webpack, output.filename and output.chunkFilename)
abbrev pub asset_of : Template → Sealing → ℕ → List ℕ → Asset
asset_of template view chunk text = asset (name_from template.parts (chunk_at view.chunks chunk).name (shown_id view.chunks chunk) text) text

-- an asset's name, with the id of its chunk
abbrev pub with_id : Sealing → (ℕ → Asset) → ℕ → ℕ × List ℕ
with_id view make chunk = (shown_id view.chunks chunk, (make chunk).name)

-- ---- the chunks that are no entry's

abbrev pub is_later : Chunk → Bool
is_later chunk = not chunk.entry && not chunk.gone

-- the numbers of those that aren't gone, ascending
abbrev pub later_chunks : State → List ℕ
later_chunks state = filter (λ c. is_later (chunk_at state c)) (range_with_len 0 (length state.chunks))

abbrev pub later_asset : Sealing → ℕ → Asset
later_asset view chunk = asset_of view.config.chunk_filename view chunk (chunk_text_of view chunk)

-- the files that a page loads later, by the ids of their chunks
abbrev pub later_files : Sealing → List (ℕ × List ℕ)
later_files view = map (with_id view (later_asset view)) (later_chunks view.chunks)

-- ---- the chunks of entries. An entry's chunk has the number of its group, and that of the entry

abbrev pub entry_chunks : Sealing → List ℕ
entry_chunks view = range_with_len 0 (length view.config.entries)

abbrev pub entry_asset : Sealing → ℕ → Asset
entry_asset view group = asset_of view.config.filename view group (entry_text_of view group (later_files view))

abbrev pub entry_files : Sealing → List (ℕ × List ℕ)
entry_files view = map (with_id view (entry_asset view)) (entry_chunks view)

-- ---- all of them

abbrev pub chunk_assets : Sealing → List Asset
chunk_assets view = map (later_asset view) (later_chunks view.chunks) ++ map (entry_asset view) (entry_chunks view)

-- how many bytes they have
abbrev pub asset_bytes : List Asset → ℕ
asset_bytes assets = sum_by (λ asset. length asset.bytes) assets

-- the names of the assets in the same order, each with its chunk's id
abbrev pub named_assets : Sealing → List (ℕ × List ℕ)
named_assets view = later_files view ++ entry_files view

abbrev pub stats_bytes : Sealing → List Split → List ℕ
stats_bytes view splits = stats_text_of view.graph view.groups view.chunks view.config splits (named_assets view)
