-- The listing of a whole walk is that of the tree.
use Rattle.std.proofs.Common.{◌≡◌, ℕ, zero, suc, ◌<◌, Bool, true, false, cond, List, [], ◌∷◌, length, get_or, Option, Some, None, refl, sym, ap, ◌∙◌, subst, arith}
use Rattle.std.proofs.lemmas.Bool.{and_parts, or_left}
use Rattle.std.proofs.lemmas.List.{get_or_default}
use Rattle.std.proofs.lemmas.Option.{same_Some}
use Rattle.std.proofs.lemmas.Map.Lookups.{exact_bytes}
use Rattle.std.specs.Cmp.{tied_itself}
use Rattle.std.specs.Cmp.Lexicographic.{nat_list_cmp_total}
use Rattle.std.specs.FinMap.Entries.{find, is_sorted, below_all, same_entries}
use Rattle.std.specs.List.{Any, Contains}
use Rattle.std.specs.Ordering.{is_eq, is_lt, eq_by_cmp, ordering_reverse}
use Rattle.std.specs.Prelude.{is_some, option_map, ◌&&◌}
use Rattle.std.proofs.Math.Dec.{T}
use Rattle.std.specs.declared.cmp.Ordering.TheVariants.{Less, Greater}
use Rattle.outside.specs.Reads.{kind_of, kind_at}
use Rattle.outside.specs.Tree.{Tree, IsTree, bytes_at, is_folder}
use Rattle.outside.specs.declared.entry.EntryKind.{EntryKind}
use Rattle.outside.specs.declared.entry.EntryKind.TheVariants.{File, Folder}
use Rattle.tree_listing.specs.Listing.{Listed, IsListingOf, lengths_of}
use Rattle.tree_listing.specs.inner.Kept.{root}
use Rattle.tree_listing.specs.inner.Split.{file_where, folder_where, files_among, folders_among, Holds}
use Rattle.tree_listing.specs.inner.Walk.{IsWalk}
use Rattle.tree_listing.specs.declared.kept.Kept.{Kept}
use Rattle.tree_listing.proofs.Among.{flat_from, from_file, from_folder, file_among, folder_among}
use Rattle.tree_listing.proofs.Bounds.{IsKept, all_kept}
use Rattle.tree_listing.proofs.Search.{path_cmp, below-at}
use Rattle.tree_listing.proofs.Trees.{equal, file_given, folder_given, entry-full, file-alone, kind-entry}
use Rattle.tree_listing.proofs.Steps.{first-root}

-- ---- look-ups in files that ascend

is_found : (path : List ℕ) (file : List ℕ × ℕ) (files : List (List ℕ × ℕ)) → path ≡ file.0 → find path_cmp path (file ∷ files) ≡ Some file.1
is_found path file files e =
    ap (λ o. cond (is_eq o) (Some file.1) (find path_cmp path files)) (ap (λ x. path_cmp x file.0) e ∙ tied_itself nat_list_cmp_total file.0)

pub find_from : (files : List (List ℕ × ℕ)) → is_sorted path_cmp files ≡ true → (path : List ℕ) (size : ℕ) → (k : ℕ) → k < length files → get_or files k (path, size) ≡ (path, size) → find path_cmp path files ≡ Some size
find_from [] h path size k inside is = absurd (omega arith)
find_from (file ∷ files) h path size zero inside is = is_found path file files (sym (ap (λ (x : List ℕ × ℕ). x.0) is)) ∙ ap (λ (x : List ℕ × ℕ). Some x.1) is
find_from (file ∷ files) h path size (suc k) inside is =
    let parts = and_parts (below_all path_cmp file.0 files) (is_sorted path_cmp files) h in
    let short : k < length files = omega arith in
    let low : path_cmp file.0 path ≡ Less = ap (λ (x : List ℕ × ℕ). path_cmp file.0 x.0) (sym is) ∙ below-at file.0 files parts.0 k (path, size) short in
    let high : path_cmp path file.0 ≡ Greater = nat_list_cmp_total.antisymm path file.0 ∙ ap ordering_reverse low in
    ap (λ o. cond (is_eq o) (Some file.1) (find path_cmp path files)) high ∙ find_from files parts.1 path size k short is

pub find_contains : (files : List (List ℕ × ℕ)) (path : List ℕ) (size : ℕ) → find path_cmp path files ≡ Some size → Contains files (path, size)
find_contains [] path size h = cc
find_contains (file ∷ files) path size h = from (find_contains files path size) (eq_by_cmp path_cmp path file.0) refl h
  where
    from : (find path_cmp path files ≡ Some size → Contains files (path, size)) → (b : Bool) → eq_by_cmp path_cmp path file.0 ≡ b → cond b (Some file.1) (find path_cmp path files) ≡ Some size → Contains (file ∷ files) (path, size)
    from later true e h =
        let key : path ≡ file.0 = exact_bytes path file.0 (equal _ e) in
        let value : file.1 ≡ size = cc in
        (0, omega arith, ap (λ x. (x, file.1)) (sym key) ∙ ap (λ x. (path, x)) value)
    from later false e h = (let more = later h in (suc more.0, omega (arith, more.1), more.2))

find-lengths : (tree : Tree) (path : List ℕ) → find path_cmp path (lengths_of tree) ≡ option_map length (bytes_at tree path)
find-lengths [] path = refl
find-lengths (file ∷ tree) path = elim (eq_by_cmp path_cmp path file.0) as (λ b. cond b (Some (length file.1)) (find path_cmp path (lengths_of tree)) ≡ option_map length (cond b (Some file.1) (bytes_at tree path))) [
  | true ↦ refl
  | false ↦ find-lengths tree path
]

below-lengths : (path : List ℕ) (tree : Tree) → below_all path_cmp path (lengths_of tree) ≡ below_all path_cmp path tree
below-lengths path [] = refl
below-lengths path (file ∷ tree) = ap (λ b. is_lt (path_cmp path file.0) && b) (below-lengths path tree)

sorted-lengths : (tree : Tree) → is_sorted path_cmp (lengths_of tree) ≡ is_sorted path_cmp tree
sorted-lengths [] = refl
sorted-lengths (file ∷ tree) = ap (λ b. b && is_sorted path_cmp (lengths_of tree)) (below-lengths file.0 tree) ∙ ap (λ b. below_all path_cmp file.0 tree && b) (sorted-lengths tree)

-- ---- the files

file_kind : (tree : Tree) (path content : List ℕ) → bytes_at tree path ≡ Some content → kind_at tree path ≡ Some (File (length content))
file_kind tree path content e = ap (λ o. kind_of o (is_folder tree path)) e

-- a kept entry at a path has the kind that the tree has there
kind_kept : (tree : Tree) (listed : ℕ) (kept : List Kept) → IsWalk tree listed kept → (path : List ℕ) (kind : EntryKind) → kind_at tree path ≡ Some kind → (place : ℕ) → place < length kept → (get_or kept place root).path ≡ path → (get_or kept place root).kind ≡ kind
kind_kept tree listed kept walk path kind h place inside at = same_Some _ _ (sym (walk.there place root inside) ∙ ap (kind_at tree) at ∙ h)

-- a file that was kept is one of the tree, with its length, and so is a folder
own_file : (tree : Tree) (listed : ℕ) (kept : List Kept) → IsWalk tree listed kept → (file : List ℕ × ℕ) → Contains (files_among kept) file → kind_at tree file.0 ≡ Some (File file.1)
own_file tree listed kept walk file h =
    let at = flat_from (λ (entry : Kept). file_where entry.path entry.kind) root kept file h in
    let parts = from_file (get_or kept at.0 root).path (get_or kept at.0 root).kind file at.2 in
    ap (kind_at tree) (sym parts.0) ∙ walk.there at.0 root at.1 ∙ ap (λ x. Some x) parts.1

own_folder : (tree : Tree) (listed : ℕ) (kept : List Kept) → IsWalk tree listed kept → (path : List ℕ) → Contains (folders_among kept) path → kind_at tree path ≡ Some Folder
own_folder tree listed kept walk path h =
    let at = flat_from (λ (entry : Kept). folder_where entry.path entry.kind) root kept path h in
    let parts = from_folder (get_or kept at.0 root).path (get_or kept at.0 root).kind path at.2 in
    ap (kind_at tree) (sym parts.0) ∙ walk.there at.0 root at.1 ∙ ap (λ x. Some x) parts.1

same_size : (one other : ℕ) → Some (File one) ≡ Some (File other) → one ≡ other
same_size one other e = cc

same_file : (file : List ℕ × ℕ) (path : List ℕ) (size : ℕ) → file.0 ≡ path → file.1 ≡ size → file ≡ (path, size)
same_file file path size e h = λ i. (e i, h i)

module _ (tree : Tree) (is : IsTree tree) (kept : List Kept) (walk : IsWalk tree (length kept) kept) (listing : Listed) (held : Holds kept listing) where
  found_size : (path : List ℕ) (size : ℕ) → kind_at tree path ≡ Some (File size) → Any (λ other. other.0 ≡ path) listing.files → find path_cmp path listing.files ≡ Some size
  found_size path size h found =
      let own = own_file tree (length kept) kept walk found.1 (held.each_file found.1 (found.0, found.2, found.3)) in
      let one = same_file found.1 path size found.4 (same_size found.1.1 size (sym own ∙ ap (kind_at tree) found.4 ∙ h)) in
      find_from listing.files held.is.files_ascend path size found.0 found.2 (get_or_default listing.files found.0 (path, size) found.1 found.2 ∙ found.3 ∙ one)

  kept_size : (path content : List ℕ) → bytes_at tree path ≡ Some content → IsKept kept path → find path_cmp path listing.files ≡ Some (length content)
  kept_size path content e at =
      let kind = file_kind tree path content e in
      found_size path (length content) kind (held.all_files (path, length content) (file_among kept path (length content) at.place at.inside at.is (kind_kept tree (length kept) kept walk path (File (length content)) kind at.place at.inside at.is)))

  no_size : (path : List ℕ) → bytes_at tree path ≡ None → (o : Option ℕ) → find path_cmp path listing.files ≡ o → o ≡ None
  no_size path e None h = refl
  no_size path e (Some size) h =
      let own = own_file tree (length kept) kept walk (path, size) (held.each_file (path, size) (find_contains listing.files path size h)) in
      let content = file_given (bytes_at tree path) (is_folder tree path) size own in
      let both : Some content.0 ≡ None = sym content.1 ∙ e in
      cc

  finds : (path : List ℕ) (o : Option (List ℕ)) → bytes_at tree path ≡ o → find path_cmp path listing.files ≡ option_map length o
  finds path (Some content) e = kept_size path content e (all_kept tree kept walk path (or_left (is_some (bytes_at tree path)) _ (ap is_some e)))
  finds path None e = no_size path e (find path_cmp path listing.files) refl

  same_files : listing.files ≡ lengths_of tree
  same_files =
      same_entries path_cmp nat_list_cmp_total exact_bytes listing.files (lengths_of tree)
      (subst T (sym held.is.files_ascend) tt) (subst T (sym (sorted-lengths tree ∙ is.sorted)) tt)
      (λ path. finds path (bytes_at tree path) refl ∙ sym (find-lengths tree path))

  -- ---- the folders

  kept_folder : (path : List ℕ) → kind_at tree path ≡ Some Folder → IsKept kept path → Contains (folders_among kept) path
  kept_folder path kind at = folder_among kept path at.place at.inside at.is (kind_kept tree (length kept) kept walk path Folder kind at.place at.inside at.is)

  root_kept : IsKept kept []
  root_kept = record { place = 0; inside = omega (arith, ap length walk.from_root.1); is = ap (λ (x : Kept). x.path) (first-root kept walk.from_root.0 walk.from_root.1) }

  kind_folder : (path : List ℕ) (bytes : Option (List ℕ)) → bytes_at tree path ≡ bytes → (is_some (bytes_at tree path) ≡ true → ⊥) → is_folder tree path ≡ true → kind_at tree path ≡ Some Folder
  kind_folder path (Some content) e none folder = absurd (none (ap is_some e))
  kind_folder path None e none folder = ap (λ o. kind_of o (is_folder tree path)) e ∙ ap (kind_of None) folder

  folder_kept : (path : List ℕ) → is_folder tree path ≡ true → Contains (folders_among kept) path
  folder_kept [] h = kept_folder [] (kind_folder [] (bytes_at tree []) refl (λ file. entry-full tree is [] (or_left (is_some (bytes_at tree [])) _ file) refl) refl) root_kept
  folder_kept (byte ∷ bytes) h =
      let path = byte ∷ bytes in
      let kind = kind_folder path (bytes_at tree path) refl (λ file. file-alone tree is path file h) h in
      kept_folder path kind (all_kept tree kept walk path (kind-entry tree path Folder (λ e. cc) kind))

  pub whole : IsListingOf tree listing
  whole = record {
    files = same_files;
    folders = λ path. (
      (λ h. (folder_given (bytes_at tree path) (is_folder tree path) (own_folder tree (length kept) kept walk path ((held.folders path).0 h))).1),
      (λ h. (held.folders path).1 (folder_kept path h)),
    );
  }
