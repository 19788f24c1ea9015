-- A manifest that is fetched.
use Rattle.std.proofs.Common.{◌≡◌, ℕ, true, false, List, [], ◌∷◌, ◌++◌, length, get_or, Option, Some, None, refl, sym, ap, ◌∙◌}
use Rattle.std.specs.List.{position}
use Rattle.std.specs.Option.{is_some, option_map}
use Rattle.std.specs.Prelude.{Result}
use Rattle.std.proofs.lemmas.Bool.{false≢true}
use Rattle.pack_util.specs.declared.number.FileId.{FileId}
use Rattle.outside.specs.Tree.{Tree, bytes_at}
use Rattle.outside.specs.Views.{ReaderView}
use Rattle.outside.specs.declared.outside_end.OutsideEnd.{OutsideEnd}
use Rattle.pkg_manifest.specs.declared.fields.Manifest.{Manifest}
use Rattle.tree_listing.specs.Listing.{Listed, IsListingOf, lengths_of, number_at}
use Rattle.resolve_path.proofs.Firsts.{number_of}
use Rattle.resolve_path.proofs.Caching.{as_read, kept_at, last_kept}
use Rattle.resolve_path.proofs.Trees.{missing, there}
use Rattle.resolve_path.specs.Caches.{AreTrue, IsManifestAt}
use Rattle.resolve_path.specs.Manifests.{IsReading, ManifestReading, manifest_path, manifests_of}
use Rattle.resolve_path.specs.Resolves.{KeepsManifests}
use Rattle.resolve_path.specs.declared.kept.KeptManifest.{KeptManifest}
use Rattle.resolve_path.specs.inner.Fetches.{ReadsManifest, is_at, nothing}

none_number : (found : Option FileId) → is_some found ≡ false → number_of found ≡ None
none_number None e = refl
none_number (Some file) e = absurd (false≢true (sym e))

some_number : (found : Option FileId) → is_some found ≡ true → is_some (number_of found) ≡ true
some_number None e = absurd (false≢true e)
some_number (Some file) e = refl

module _ (tree : Tree) (listing : Listed) (path : List ℕ) (found : Option FileId) (of : IsListingOf tree listing) (is : number_of found ≡ number_at listing.files path) where
  number : number_at (lengths_of tree) path ≡ number_of found
  number = ap (λ files. number_at files path) (sym of.files) ∙ sym is

  pub there_is : is_some found ≡ true → is_some (bytes_at tree path) ≡ true
  there_is some = sym (there tree path) ∙ ap is_some number ∙ some_number found some

  pub missing_is : is_some found ≡ false → (folder : List ℕ) → path ≡ manifest_path folder → (reading : ManifestReading) → None ≡ manifests_of reading tree folder
  missing_is none folder at reading =
      sym (ap (λ one. option_map reading (bytes_at tree one)) (sym at) ∙ ap (option_map reading) (missing tree path (number ∙ none_number found none)))

pub kept_is : (tree : Tree) (kept : List KeptManifest) (folder path : List ℕ) (place : ℕ) (reading : ManifestReading) → path ≡ manifest_path folder → IsReading reading → AreTrue tree kept
    → Some place ≡ position (is_at path) kept → Some (get_or kept place nothing).answer ≡ manifests_of reading tree folder
kept_is tree kept folder path place reading at is all e =
    as_read tree path (get_or kept place nothing).answer reading is (kept_at tree kept path place all (sym e))
    ∙ ap (λ one. option_map reading (bytes_at tree one)) at

pub fresh_is : (tree : Tree) (folder path : List ℕ) (answer : Option Manifest) (reading : ManifestReading) → path ≡ manifest_path folder → IsReading reading → IsManifestAt tree path answer → Some answer ≡ manifests_of reading tree folder
fresh_is tree folder path answer reading at is own = as_read tree path answer reading is own ∙ ap (λ one. option_map reading (bytes_at tree one)) at

pub last_is : (kept new : List KeptManifest) (one : KeptManifest) (place : ℕ) → new ≡ kept ++ one ∷ [] → place ≡ length kept → Some (get_or new place nothing).answer ≡ Some one.answer
last_is kept new one place e at = rw (e, at) (ap (λ (other : KeptManifest). Some other.answer) (last_kept kept one))

pub keeps_read : (tree : Tree) (listing : Listed) (old new : List KeptManifest) (path : List ℕ) (before now : ReaderView) (result : Result (Option Manifest) OutsideEnd)
    → ReadsManifest tree path before now result → (IsListingOf tree listing → is_some (bytes_at tree path) ≡ true) → (AreTrue tree old → AreTrue tree new) → KeepsManifests tree listing old new before now
keeps_read tree listing old new path before now result reads listed cache =
    record { log = reads.log; listed = reads.listed; no_stray = λ of. reads.no_stray (listed of); cache = cache }
