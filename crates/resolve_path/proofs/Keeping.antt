-- Parts of a resolution, one after another.
use Rattle.std.proofs.Common.{ℕ, List, [], ◌∷◌, ◌++◌, append_assoc, append-nil, refl, sym, ap, ◌∙◌}
use Rattle.outside.specs.Logs.{AreReadsFor, Gains, is_manifest}
use Rattle.outside.specs.Tree.{Tree}
use Rattle.outside.specs.Views.{ReaderView}
use Rattle.outside.specs.declared.entry.Why.{Why}
use Rattle.tree_listing.specs.Listing.{Listed}
use Rattle.resolve_path.specs.Resolves.{KeepsManifests}
use Rattle.resolve_path.specs.declared.kept.KeptManifest.{KeptManifest}

pub gains_none : (view : ReaderView) → Gains view view (AreReadsFor is_manifest)
gains_none view = ([], sym (append-nil view.log), tt)

only_append : (reads more : List (List ℕ × Why)) → AreReadsFor is_manifest reads → AreReadsFor is_manifest more → AreReadsFor is_manifest (reads ++ more)
only_append [] more all rest = rest
only_append (read ∷ reads) more all rest = (all.0, only_append reads more all.1 rest)

gains_more : (before between now : ReaderView) → Gains before between (AreReadsFor is_manifest) → Gains between now (AreReadsFor is_manifest) → Gains before now (AreReadsFor is_manifest)
gains_more before between now first second = (
  first.0 ++ second.0,
  second.1 ∙ ap (λ log. log ++ second.0) first.1 ∙ append_assoc before.log first.0 second.0,
  only_append first.0 second.0 first.2 second.2,
)

pub keeps_all : (tree : Tree) (listing : Listed) (cache : List KeptManifest) (view : ReaderView) → KeepsManifests tree listing cache cache view view
keeps_all tree listing cache view = record { log = gains_none view; listed = refl; no_stray = λ of. refl; cache = λ true. true }

pub keeps_on : (tree : Tree) (listing : Listed) (old between new : List KeptManifest) (before middle now : ReaderView)
    → KeepsManifests tree listing old between before middle → KeepsManifests tree listing between new middle now → KeepsManifests tree listing old new before now
keeps_on tree listing old between new before middle now first second = record {
  log = gains_more before middle now first.log second.log;
  listed = second.listed ∙ first.listed;
  no_stray = λ of. second.no_stray of ∙ first.no_stray of;
  cache = λ true. second.cache (first.cache true);
}
