-- What a request asks for, put together.
use Rattle.std.proofs.Common.{◌≡◌, ℕ, Bool, true, false, cond, List, [], Option, Some, None, refl, sym, ap, ◌∙◌}
use Rattle.std.specs.List.{find}
use Rattle.std.specs.Option.{option_map, unwrap_or}
use Rattle.graph_types.specs.declared.config.Config.{Config}
use Rattle.outside.specs.Tree.{Tree, is_folder}
use Rattle.tree_listing.specs.Listing.{IsListingOf, Listed}
use Rattle.resolve_path.proofs.Above.{listed_is}
use Rattle.resolve_path.specs.Folders.{places_from}
use Rattle.resolve_path.specs.Manifests.{Manifests, ManifestReading, manifests_of}
use Rattle.resolve_path.specs.Packages.{bare_places, found_places, package_paths, package_places}
use Rattle.resolve_path.specs.Places.{answer_among}
use Rattle.resolve_path.specs.Requests.{Asked, aliased, asked_of, bare_of, is_aliased, is_relative, replaced}
use Rattle.resolve_path.specs.Resolution.{asked_places, resolution_of}
use Rattle.resolve_path.specs.declared.request.BareRequest.{BareRequest}
use Rattle.resolve_path.specs.declared.request_kind.RequestKind.{RequestKind}
use Rattle.resolve_path.specs.inner.Parts.{is_listed, replaced_by}

module _ (manifests : Manifests) (is_folder : List ℕ → Bool) (config : Config) (kind : RequestKind) (base request : List ℕ) where
  pub relative_is : is_relative request ≡ true → places_from manifests config base request ≡ asked_places manifests is_folder config kind (record { base = base; request = request })
  relative_is e = rw e refl

  pub bare_is : is_relative request ≡ false → bare_places manifests is_folder config kind base (bare_of request) ≡ asked_places manifests is_folder config kind (record { base = base; request = request })
  bare_is e = rw e refl

  pub package_is : (bare : BareRequest) (folder name rest : List ℕ) → name ≡ bare.name → rest ≡ bare.rest → Some bare ≡ bare_of request → Some folder ≡ find is_folder (package_paths base name)
      → package_places manifests config kind folder rest ≡ bare_places manifests is_folder config kind base (bare_of request)
  package_is bare folder name rest named left is found =
      ap (package_places manifests config kind folder) left
      ∙ ap (found_places manifests config kind bare.rest) (found ∙ ap (λ one. find is_folder (package_paths base one)) named)
      ∙ ap (bare_places manifests is_folder config kind base) is

by_alias : (folder request other base : List ℕ) (found : Option (List ℕ × List ℕ)) → Some other ≡ option_map (replaced request) found → base ≡ cond (is_relative other) [] folder
    → record { base = base; request = other } ≡ aliased folder request found
by_alias folder request other base (Some alias) e at =
    let own : other ≡ replaced request alias = ap (λ one. unwrap_or one other) e in
    let root : base ≡ cond (is_relative (replaced request alias)) [] folder = at ∙ ap (λ one. cond (is_relative one) [] folder) own in
    (λ i. record { base = root i; request = own i })
by_alias folder request other base None e at = cc

pub asked_some : (aliases : List (List ℕ × List ℕ)) (folder request other base : List ℕ) → Some other ≡ replaced_by aliases request → base ≡ cond (is_relative other) [] folder
    → record { base = base; request = other } ≡ asked_of aliases folder request
asked_some aliases folder request other base e at = by_alias folder request other base (find (λ alias. is_aliased request alias.0) aliases) e at

by_none : (folder request : List ℕ) (found : Option (List ℕ × List ℕ)) → None ≡ option_map (replaced request) found → record { base = folder; request = request } ≡ aliased folder request found
by_none folder request None e = refl
by_none folder request (Some alias) e = cc

pub asked_none : (aliases : List (List ℕ × List ℕ)) (folder request : List ℕ) → None ≡ replaced_by aliases request → record { base = folder; request = request } ≡ asked_of aliases folder request
asked_none aliases folder request e = by_none folder request (find (λ alias. is_aliased request alias.0) aliases) e

-- over the tree's listing it is the resolution
module _ (tree : Tree) (listing : Listed) (of : IsListingOf tree listing) where
  same_folders : is_listed listing.folders ≡ is_folder tree
  same_folders = λ i path. sym (listed_is listing.folders path (is_folder tree path) ((of.folders path).1, (of.folders path).0)) i

  pub resolution_is : (reading : ManifestReading) (config : Config) (kind : RequestKind) (folder request : List ℕ) (asked : Asked) → asked ≡ asked_of config.alias folder request
      → answer_among listing.files (asked_places (manifests_of reading tree) (is_listed listing.folders) config kind asked) ≡ resolution_of reading tree config folder request kind
  resolution_is reading config kind folder request asked e =
      (λ i. answer_among (of.files i) (asked_places (manifests_of reading tree) (same_folders i) config kind (e i)))
