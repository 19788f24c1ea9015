-- What asking for the items of a module answers and does where the tree is told (this project).
use Rattle.std.specs.Prelude.{◌≡◌, ℕ, List, map, Result, Vec, IfOk}
use Rattle.std.specs.declared.alloc.Global.{Global}
use Rattle.graph_types.specs.declared.config.Config.{Config}
use Rattle.graph_types.specs.declared.item.Item.{Item}
use Rattle.graph_types.specs.declared.record.ModRecord.{ModRecord}
use Rattle.outside.specs.Tree.{Tree}
use Rattle.outside.specs.declared.outside_end.OutsideEnd.{OutsideEnd}
use Rattle.path_text.specs.Path.{parent_of}
use Rattle.resolve_path.specs.Caches.{AreTrue}
use Rattle.resolve_path.specs.Manifests.{IsReading, ManifestReading}
use Rattle.resolve_path.specs.Resolution.{resolution_of}
use Rattle.resolve_path.specs.declared.kept.KeptManifest.{KeptManifest}
use Rattle.tree_listing.specs.Listing.{Listed, IsListingOf}
use Rattle.module_build.specs.Record.{asked_by, resolved}
use Rattle.module_build.specs.declared.asked.Asked.{Asked}

-- by the tree's listing and a cache that is true of the tree, an Ok has the answer to each item
abbrev pub FindsAll : Tree → Listed → Config → List ℕ → List KeptManifest → List Item → Result (Vec Asked Global) OutsideEnd → Type 0
FindsAll tree listing config folder old items result =
    IsListingOf tree listing → AreTrue tree old → (reading : ManifestReading) → IsReading reading
    → IfOk result (λ asked. asked.items ≡ map (asked_by (λ request kind. resolution_of reading tree config folder request kind)) items)

-- and an Ok is the record with those answers
abbrev pub Resolves : Tree → Listed → Config → List ℕ → List KeptManifest → ModRecord → Result ModRecord OutsideEnd → Type 0
Resolves tree listing config path old rec result =
    IsListingOf tree listing → AreTrue tree old → (reading : ManifestReading) → IsReading reading
    → IfOk result (λ made. made ≡ resolved (λ request kind. resolution_of reading tree config (parent_of path) request kind) rec)
