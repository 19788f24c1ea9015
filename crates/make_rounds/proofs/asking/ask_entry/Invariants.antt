use Rattle.std.proofs.Common.{◌≡◌, map, take, length}
use Rattle.std.specs.List.{AllByRecursion}
use Rattle.module_build.specs.Readings.{AreReadings, Readings}
use Rattle.outside.specs.Tree.{Told}
use Rattle.resolve_path.specs.Caches.{AreTrue}
use Rattle.resolve_path.specs.Places.{HasFileWithin}
use Rattle.resolve_path.specs.Resolves.{KeepsManifests}
use Rattle.tree_listing.specs.Listing.{IsListingOf}
use Rattle.make_rounds.specs.Entries.{root_naming}
use Rattle.make_rounds.specs.declared.entry_answer.EntryAnswer.{EntryAnswer}
use Rattle.make_rounds.specs.inner.Answered.{answered_by}
use Rattle.make_rounds.proofs.asking.ask_entry.Given as goal

abbrev pub invariant-loop-file : goal.invariant-loop-file
invariant-loop-file g l = record {
  follows : g.R.TreeReader.follows l.fn.reader l.reader;
  within : AllByRecursion (λ (one : EntryAnswer). HasFileWithin (length l.listing.files) one.answer) l.answers.items;
  keeps : Told (g.R.TreeReader.view l.fn.reader).tree (λ tree. KeepsManifests tree l.listing l.fn.cache l.cache (g.R.TreeReader.view l.fn.reader) (g.R.TreeReader.view l.reader));
  finds : Told (g.R.TreeReader.view l.fn.reader).tree (λ tree. IsListingOf tree l.listing → AreTrue tree l.fn.cache → (readings : Readings) → AreReadings readings
      → l.answers.items ≡ map (answered_by (root_naming readings tree l.config)) (take l.file-index l.files));
}
