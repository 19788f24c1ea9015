use Rattle.std.proofs.Common.{◌≡◌, map, take, length}
use Rattle.std.specs.List.{AllByRecursion}
use Rattle.outside.specs.Tree.{Told}
use Rattle.resolve_path.specs.Caches.{AreTrue}
use Rattle.resolve_path.specs.Manifests.{IsReading, ManifestReading}
use Rattle.resolve_path.specs.Places.{HasFileWithin}
use Rattle.resolve_path.specs.Resolution.{resolution_of}
use Rattle.resolve_path.specs.Resolves.{KeepsManifests}
use Rattle.tree_listing.specs.Listing.{IsListingOf}
use Rattle.module_build.specs.Record.{asked_by}
use Rattle.module_build.specs.declared.asked.Asked.{Asked}
use Rattle.module_build.proofs.asking.ask_all.Given as goal

abbrev pub invariant-loop-item : goal.invariant-loop-item
invariant-loop-item g l = record {
  follows : g.R.TreeReader.follows l.fn.reader l.reader;
  items : map (λ (one : Asked). one.item) l.asked.items ≡ take l.item-index l.items;
  within : AllByRecursion (λ (one : Asked). HasFileWithin (length l.listing.files) one.answer) l.asked.items;
  keeps : Told (g.R.TreeReader.view l.fn.reader).tree (λ tree. KeepsManifests tree l.listing l.fn.cache l.cache (g.R.TreeReader.view l.fn.reader) (g.R.TreeReader.view l.reader));
  finds : Told (g.R.TreeReader.view l.fn.reader).tree (λ tree. IsListingOf tree l.listing → AreTrue tree l.fn.cache → (reading : ManifestReading) → IsReading reading
      → l.asked.items ≡ map (asked_by (λ request kind. resolution_of reading tree l.config l.folder request kind)) (take l.item-index l.items));
}
