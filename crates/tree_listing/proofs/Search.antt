-- What a binary search finds among files in ascending order, and among sorted folders.
use Rattle.std.proofs.Common.{◌≡◌, ℕ, zero, suc, ◌+◌, ◌<◌, ◌≤◌, true, false, bytes_eq, List, [], ◌∷◌, length, get_or, Some, None, Result, Ok, Err, ◌⊎◌, ◌↔◌, inl, inr, refl, sym, ap, ◌∙◌, subst, arith}
use Rattle.std.specs.Prelude.{is_ok, IsTrue}
use Rattle.std.proofs.lemmas.Bool.{and_parts, cases_lt, lt-ltb, le-ltb}
use Rattle.std.proofs.lemmas.List.Sums.{position_or_len_is}
use Rattle.std.proofs.lemmas.List.Sorted.{searchable_from_sorted}
use Rattle.std.proofs.lemmas.Map.Lookups.{exact_bytes}
use Rattle.std.proofs.lemmas.Map.Text.{is_eq-slice_cmp}
use Rattle.std.specs.Cmp.{tied_itself}
use Rattle.std.specs.Cmp.Lexicographic.{slice_cmp, nat_list_cmp_total}
use Rattle.std.specs.FinMap.Entries.{is_sorted, below_all}
use Rattle.std.specs.List.{AllByRecursion, AllPairs, Contains, position_or_len}
use Rattle.std.specs.List.Sorted.{IsSorted, IsSortedBy, IsStrictlySortedBy, IsBinarySearchResult, IsPartitionPoint, IsSearchInRange}
use Rattle.std.specs.Ordering.{nat_cmp, is_lt, is_eq, ordering_reverse}
use Rattle.std.specs.declared.cmp.Ordering.{Ordering}
use Rattle.std.specs.declared.cmp.Ordering.TheVariants.{Less, Equal, Greater}
use Rattle.tree_listing.specs.Listing.{number_at}

-- the order of paths, and of files by path
abbrev pub path_cmp : List ℕ → List ℕ → Ordering
path_cmp = slice_cmp nat_cmp

abbrev pub file_cmp : List ℕ × ℕ → List ℕ × ℕ → Ordering
file_cmp one other = slice_cmp nat_cmp one.0 other.0

less : (o : Ordering) → is_lt o ≡ true → o ≡ Less
less Less h = refl
less Equal h = cc
less Greater h = cc

pub below-at : (path : List ℕ) (files : List (List ℕ × ℕ)) → below_all path_cmp path files ≡ true → (k : ℕ) (d : List ℕ × ℕ) → k < length files → path_cmp path (get_or files k d).0 ≡ Less
below-at path [] h k d within = absurd (omega arith)
below-at path (file ∷ files) h zero d within = less _ (and_parts (is_lt (path_cmp path file.0)) (below_all path_cmp path files) h).0
below-at path (file ∷ files) h (suc k) d within = below-at path files (and_parts (is_lt (path_cmp path file.0)) (below_all path_cmp path files) h).1 k d (omega arith)

pub ascending : (files : List (List ℕ × ℕ)) → is_sorted path_cmp files ≡ true → AllPairs (λ one other. file_cmp one other ≡ Less) files
ascending [] h i j d before within = absurd (omega arith)
ascending (file ∷ files) h zero zero d before within = absurd (omega arith)
ascending (file ∷ files) h zero (suc j) d before within = below-at file.0 files (and_parts (below_all path_cmp file.0 files) (is_sorted path_cmp files) h).0 j d (omega arith)
ascending (file ∷ files) h (suc i) zero d before within = absurd (omega arith)
ascending (file ∷ files) h (suc i) (suc j) d before within = ascending files (and_parts (below_all path_cmp file.0 files) (is_sorted path_cmp files) h).1 i j d (omega arith) (omega arith)

-- files that ascend are sorted as a search asks
sorted : (files : List (List ℕ × ℕ)) → is_sorted path_cmp files ≡ true → IsSortedBy (λ one other. is_lt (file_cmp one other)) files
sorted files h k d low within =
    let up : file_cmp (get_or files k d) (get_or files (k + 1) d) ≡ Less = ascending files h k (k + 1) d (omega arith) within in
    ap is_lt (nat_list_cmp_total.antisymm (get_or files (k + 1) d).0 (get_or files k d).0 ∙ ap ordering_reverse up)

-- a file whose path compares apart has another path
differs : (file : List ℕ × ℕ) (path : List ℕ) (o : Ordering) → path_cmp file.0 path ≡ o → is_eq o ≡ false → bytes_eq file.0 path ≡ false
differs file path o is other = sym (is_eq-slice_cmp file.0 path) ∙ ap is_eq is ∙ other

same : (file : List ℕ × ℕ) (path : List ℕ) → path_cmp file.0 path ≡ Equal → bytes_eq file.0 path ≡ true
same file path is = sym (is_eq-slice_cmp file.0 path) ∙ ap is_eq is

pub found : (files : List (List ℕ × ℕ)) (path : List ℕ) (place : ℕ) → is_sorted path_cmp files ≡ true → place < length files → ((d : List ℕ × ℕ) → path_cmp (get_or files place d).0 path ≡ Equal) → Some place ≡ number_at files path
found files path place h within at =
    let here = at ([], 0) in
    let is : (get_or files place ([], 0)).0 ≡ path = exact_bytes _ _ here in
    let first : position_or_len (λ file. bytes_eq file.0 path) files ≡ place =
    position_or_len_is (λ file. bytes_eq file.0 path) files place ([], 0) (omega arith)
    (λ k before. differs (get_or files k ([], 0)) path Less (ap (path_cmp (get_or files k ([], 0)).0) (sym is) ∙ ascending files h k place ([], 0) before within) refl)
    (λ _. same (get_or files place ([], 0)) path here) in
    let inside = lt-ltb place (length files) within in
    rw (first, inside)

apart : (files : List (List ℕ × ℕ)) (path : List ℕ) (place : ℕ) → IsPartitionPoint (λ file. path_cmp file.0 path ≡ Less) (λ file. path_cmp file.0 path ≡ Greater) files place → (k : ℕ) → k < length files → (k < place) ⊎ (place ≤ k) → bytes_eq (get_or files k ([], 0)).0 path ≡ false
apart files path place parts k within (inl before) = differs (get_or files k ([], 0)) path Less (parts.0 k ([], 0) (omega arith) before) refl
apart files path place parts k within (inr after) = differs (get_or files k ([], 0)) path Greater (parts.1 k ([], 0) after within) refl

pub missed : (files : List (List ℕ × ℕ)) (path : List ℕ) (place : ℕ) → is_sorted path_cmp files ≡ true → IsBinarySearchResult (λ file. path_cmp file.0 path) files (Err place) → None ≡ number_at files path
missed files path place h result =
    let parts = result (searchable_from_sorted nat_list_cmp_total (λ file. file.0) files path (sorted files h)) in
    let first : position_or_len (λ file. bytes_eq file.0 path) files ≡ length files =
    position_or_len_is (λ file. bytes_eq file.0 path) files (length files) ([], 0) (omega arith)
    (λ k within. apart files path place parts k within (cases_lt k place))
    (λ past. absurd (omega arith)) in
    let outside = le-ltb (length files) (length files) (omega arith) in
    rw (first, outside)

-- ---- folders

below_first : (path : List ℕ) (folders : List (List ℕ)) → AllByRecursion (λ other. path_cmp path other ≡ Less) folders → 0 < length folders → (d : List ℕ) → path_cmp path (get_or folders 0 d) ≡ Less
below_first path [] all full d = absurd (omega arith)
below_first path (folder ∷ folders) all full d = all.0

-- folders that ascend are sorted as a search asks
sorted_folders : (folders : List (List ℕ)) → IsStrictlySortedBy path_cmp folders → IsSorted path_cmp folders
unfolding IsStrictlySortedBy
sorted_folders [] h k d low within = absurd (omega arith)
sorted_folders (folder ∷ folders) h zero d low within =
    ap is_lt (nat_list_cmp_total.antisymm (get_or folders 0 d) folder ∙ ap ordering_reverse (below_first folder folders h.0 (omega arith) d))
sorted_folders (folder ∷ folders) h (suc k) d low within =
    let next : suc (k + 1) ≡ suc k + 1 = omega arith in
    subst (λ n. is_lt (path_cmp (get_or (folder ∷ folders) n d) (get_or folders k d)) ≡ false) next (sorted_folders folders h.1 k d (omega arith) (omega arith))

held : (folders : List (List ℕ)) (path : List ℕ) (place : ℕ) → place < length folders → ((d : List ℕ) → path_cmp (get_or folders place d) path ≡ Equal) → Contains folders path
held folders path place within at = (place, within, exact_bytes _ _ (at path))

alike : (path : List ℕ) → path_cmp path path ≡ Equal
alike path = tied_itself nat_list_cmp_total path

no_place : (folders : List (List ℕ)) (path : List ℕ) (place : ℕ) → IsPartitionPoint (λ folder. path_cmp folder path ≡ Less) (λ folder. path_cmp folder path ≡ Greater) folders place → (k : ℕ) → k < length folders → get_or folders k path ≡ path → (k < place) ⊎ (place ≤ k) → ⊥
no_place folders path place parts k within is (inl before) =
    let less_here = parts.0 k path (omega arith) before in
    let equal_here = ap (λ x. path_cmp x path) is ∙ alike path in
    cc
no_place folders path place parts k within is (inr after) =
    let greater_here = parts.1 k path after within in
    let equal_here = ap (λ x. path_cmp x path) is ∙ alike path in
    cc

pub folder_found : (folders : List (List ℕ)) (path : List ℕ) (result : Result ℕ ℕ) → IsStrictlySortedBy path_cmp folders → IsSearchInRange result (length folders) → IsBinarySearchResult (λ folder. path_cmp folder path) folders result → IsTrue (is_ok result) ↔ Contains folders path
folder_found folders path (Ok place) h bound at = (λ _. held folders path place bound at, λ _. refl)
folder_found folders path (Err place) h bound at =
    let parts = at (searchable_from_sorted nat_list_cmp_total (λ folder. folder) folders path (sorted_folders folders h)) in
    (λ no. cc, λ there. absurd (no_place folders path place parts there.0 there.1 there.2 (cases_lt there.0 place)))
