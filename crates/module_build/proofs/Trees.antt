-- The files of a tree by their numbers.
use Rattle.std.proofs.Common.{◌≡◌, ℕ, ◌<◌, true, List, [], length, get_or, sym, ap, ◌∙◌}
use Rattle.std.specs.Prelude.{Some, is_some, unwrap_or}
use Rattle.std.specs.Cmp.{eq_by_cmp_equiv}
use Rattle.std.specs.Cmp.Lexicographic.{slice_cmp, nat_list_cmp_total}
use Rattle.std.specs.FinMap.Entries.{is_some-find}
use Rattle.std.specs.Ordering.{nat_cmp, eq_by_cmp}
use Rattle.std.proofs.lemmas.List.{get_or-map, length-map}
use Rattle.std.proofs.lemmas.List.Folds.{list_any_at}
use Rattle.pack_util.specs.declared.number.TheConstants.{MAX_TEXT}
use Rattle.outside.specs.Tree.{Tree, bytes_at, files_of}
use Rattle.outside.specs.Reads.{read_of}
use Rattle.outside.specs.declared.entry.ReadGot.{ReadGot}
use Rattle.tree_listing.specs.Listing.{lengths_of, path_at}

module _ (tree : Tree) (number : ℕ) (within : number < length (lengths_of tree)) where
  inside : number < length tree
  inside = rw length-map at within

  pub path_is : path_at (lengths_of tree) number ≡ get_or (files_of tree) number []
  path_is =
      ap (λ (file : List ℕ × ℕ). file.0) (get_or-map (λ file. (file.0, length file.1)) tree number ([], []) ([], 0) inside)
      ∙ sym (get_or-map (λ (file : List ℕ × List ℕ). file.0) tree number ([], []) [] inside)

  listed : number < length (files_of tree)
  listed = rw length-map inside

  pub there : is_some (bytes_at tree (path_at (lengths_of tree) number)) ≡ true
  there =
      ap (λ path. is_some (bytes_at tree path)) path_is
      ∙ is_some-find (slice_cmp nat_cmp) (get_or (files_of tree) number []) tree
      ∙ list_any_at (eq_by_cmp (slice_cmp nat_cmp) (get_or (files_of tree) number [])) (files_of tree) number [] listed
      ((eq_by_cmp_equiv nat_list_cmp_total).refl (get_or (files_of tree) number []))

-- what a read of a file gave is what the tree's bytes give
pub read_is : (tree : Tree) (number : ℕ) (path : List ℕ) (got : ReadGot) → path ≡ path_at (lengths_of tree) number → (bytes : List ℕ) × (bytes_at tree path ≡ Some bytes) × (got ≡ read_of MAX_TEXT bytes) → got ≡ read_of MAX_TEXT (unwrap_or (bytes_at tree (path_at (lengths_of tree) number)) [])
read_is tree number path got same read =
    let at : bytes_at tree (path_at (lengths_of tree) number) ≡ Some read.0 = ap (bytes_at tree) (sym same) ∙ read.1 in
    read.2 ∙ ap (λ found. read_of MAX_TEXT (unwrap_or found [])) (sym at)
