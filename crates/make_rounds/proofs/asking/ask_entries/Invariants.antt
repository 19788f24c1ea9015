use Rattle.std.proofs.Common.{◌≡◌, map, take, length}
use Rattle.std.specs.List.{AllByRecursion}
use Rattle.module_build.specs.Readings.{AreReadings, Readings}
use Rattle.outside.specs.Tree.{Told}
use Rattle.resolve_path.specs.Caches.{AreTrue}
use Rattle.resolve_path.specs.Places.{HasFileWithin}
use Rattle.resolve_path.specs.Resolves.{KeepsManifests}
use Rattle.tree_listing.specs.Listing.{IsListingOf}
use Rattle.make_rounds.specs.Entries.{root_naming}
use Rattle.make_rounds.specs.declared.entry_answer.EntryAnswer.{EntryAnswer}
use Rattle.make_rounds.specs.inner.Answered.{answered_entry}
use Rattle.make_rounds.proofs.asking.ask_entries.Given as goal

abbrev pub invariant-loop-entry : goal.invariant-loop-entry
invariant-loop-entry g l = record {
  follows : g.R.TreeReader.follows l.fn.reader l.reader;
  count : length l.all.items ≡ l.entry-index;
  within : AllByRecursion (AllByRecursion (λ (one : EntryAnswer). HasFileWithin (length l.listing.files) one.answer)) l.all.items;
  keeps : Told (g.R.TreeReader.view l.fn.reader).tree (λ tree. KeepsManifests tree l.listing l.fn.cache l.cache (g.R.TreeReader.view l.fn.reader) (g.R.TreeReader.view l.reader));
  finds : Told (g.R.TreeReader.view l.fn.reader).tree (λ tree. IsListingOf tree l.listing → AreTrue tree l.fn.cache → (readings : Readings) → AreReadings readings
      → l.all.items ≡ map (answered_entry (root_naming readings tree l.config)) (take l.entry-index l.entry-items));
}
