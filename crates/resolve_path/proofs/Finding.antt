-- What a part of a resolution finds, by what its own parts find.
use Rattle.std.proofs.Common.{◌≡◌, ℕ, List, Some, None, Ok, Err, sym, ap, ◌∙◌, subst}
use Rattle.std.specs.Prelude.{IfOk, Result}
use Rattle.std.specs.Result.{result_ok}
use Rattle.pack_util.specs.declared.number.FileId.{FileId}
use Rattle.graph_types.specs.declared.config.Config.{Config}
use Rattle.outside.specs.Tree.{Tree}
use Rattle.outside.specs.Views.{ReaderView}
use Rattle.outside.specs.declared.outside_end.OutsideEnd.{OutsideEnd}
use Rattle.path_text.specs.Path.{join_of}
use Rattle.path_text.specs.declared.path_end.PathEnd.{PathEnd}
use Rattle.tree_listing.specs.Listing.{Listed}
use Rattle.resolve_path.proofs.Firsts.{found_before, none_before, number_of}
use Rattle.resolve_path.specs.Folders.{folder_places, paths_as_file, places_at, places_from}
use Rattle.resolve_path.specs.Manifests.{Manifests}
use Rattle.resolve_path.specs.Places.{Places, answer_among, first_number}
use Rattle.resolve_path.specs.Resolves.{KeepsManifests}
use Rattle.resolve_path.specs.declared.kept.KeptManifest.{KeptManifest}
use Rattle.resolve_path.specs.declared.resolution.Resolution.{Resolution}
use Rattle.resolve_path.specs.declared.resolution.Resolution.TheVariants.{File}
use Rattle.resolve_path.specs.inner.Fetches.{FindsIn}
use Rattle.resolve_path.specs.inner.Parts.{path_named}

-- nothing is found where an error is answered
pub finds_none : (tree : Tree) (listing : Listed) (old new : List KeptManifest) (before now : ReaderView) (end : OutsideEnd) (places : Manifests → Places)
    → KeepsManifests tree listing old new before now → FindsIn tree listing old new before now (Err end) places
finds_none tree listing old new before now end places keeps = record { keeps = keeps; is = λ of true reading is. tt }

pub answer_end : {E : Type 0} (result : Result Resolution E) (one other : Resolution) → one ≡ other → IfOk result (λ answer. answer ≡ one) → IfOk result (λ answer. answer ≡ other)
answer_end result one other e h = subst (λ own. IfOk result (λ answer. answer ≡ own)) e h

joined_ok : (joined : Result (List ℕ) PathEnd) (path : List ℕ) → Some path ≡ result_ok joined → joined ≡ Ok path
joined_ok (Ok other) path e = cc
joined_ok (Err end) path e = cc

module _ (files : List (List ℕ × ℕ)) (manifests : Manifests) (config : Config) (folder text path : List ℕ) (is : Some path ≡ path_named folder text) where
  at : answer_among files (places_at manifests config text (Ok path)) ≡ answer_among files (places_from manifests config folder text)
  at = ap (λ joined. answer_among files (places_at manifests config text joined)) (sym (joined_ok (join_of folder text) path is))

  pub file_from : (file : FileId) → number_of (Some file) ≡ first_number files (paths_as_file config text path) → File file ≡ answer_among files (places_from manifests config folder text)
  file_from file first = found_before files (paths_as_file config text path) (folder_places config path (manifests path)) file first ∙ at

  pub folder_from : None ≡ first_number files (paths_as_file config text path) → answer_among files (folder_places config path (manifests path)) ≡ answer_among files (places_from manifests config folder text)
  folder_from none = none_before files (paths_as_file config text path) (folder_places config path (manifests path)) none ∙ at
