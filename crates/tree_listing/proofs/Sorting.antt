-- Files and folders sorted by path and kept once for each path.
use Rattle.std.proofs.Common.{◌≡◌, ◌≢◌, ℕ, ◌+◌, ◌≤◌, List, [], ◌∷◌, cond, length, true, nat_eq, ◌↔◌, ◌∙◌, refl, ap, sym, subst, arith, length-append, IsPermutation}
use Rattle.std.proofs.lemmas.Bool.{and_from}
use Rattle.std.proofs.lemmas.List.Filters.{dedup_is}
use Rattle.std.proofs.lemmas.List.Kept.{Any-dedup, Contains-dedup, Contains-from_dedup, IsStrictlySortedBy-dedup}
use Rattle.std.proofs.lemmas.List.Sorted.{Contains-permutation, IsPermutation-sym, length_permutation}
use Rattle.std.proofs.lemmas.Map.Keys.{IsDistinct-head, IsDistinct-IsPermutation, IsDistinct-tail}
use Rattle.std.proofs.lemmas.Map.Made.{IsDistinct-from_AllPairs}
use Rattle.std.proofs.lemmas.Slice.Eq.{bytes_eq-Decides}
use Rattle.std.specs.Cmp.{IsEquivalence}
use Rattle.std.specs.Cmp.Lexicographic.{pointwise, bytes_decides, nat_list_cmp_total, nat_list_eq_equiv, texts_ties, on_texts, on_texts_equal}
use Rattle.std.specs.FinMap.Entries.{is_sorted, below_all}
use Rattle.std.specs.List.{AllByRecursion, AllPairs, Any, Contains, IsDistinct, dedup, dedup_from}
use Rattle.std.specs.List.Retain.{DiffersFromLast, IsFiltered}
use Rattle.std.specs.List.Sorted.{IsSorted, IsStrictlySortedBy}
use Rattle.std.specs.Ordering.{is_lt}
use Rattle.std.specs.Prelude.{Bool}
use Rattle.std.specs.declared.cmp.Ordering.{Ordering}
use Rattle.std.specs.declared.cmp.Ordering.TheVariants.{Less}
use Rattle.outside.specs.declared.entry.EntryKind.{EntryKind}
use Rattle.outside.specs.declared.entry.EntryKind.TheVariants.{File, Folder}
use Rattle.tree_listing.specs.inner.Split.{file_where, files_among, folder_where, folders_among, IsSortedOnce}
use Rattle.tree_listing.specs.declared.kept.Kept.{Kept}
use Rattle.tree_listing.proofs.Search.{path_cmp, file_cmp}

-- what is left of members that were sorted, of which equal neighbours were then taken
pub sort_leaves : {X : Type 0} (compare : X → X → Ordering) (same : X → X → Bool) (members moved left : List X) → IsPermutation members moved → IsSorted compare moved → IsFiltered (DiffersFromLast same) [] moved left → length left ≤ length moved → IsSortedOnce compare same members left
sort_leaves compare same members moved left permuted sorted filtered fewer = record {
  moved = moved;
  permuted = permuted;
  sorted = sorted;
  once = dedup_is same moved left filtered;
  fewer = omega (arith, fewer, length_permutation members moved permuted);
}

abbrev pub same_path : List ℕ × ℕ → List ℕ × ℕ → Bool
same_path one other = pointwise nat_eq one.0 other.0

below : (file : List ℕ × ℕ) (files : List (List ℕ × ℕ)) → AllByRecursion (λ other. file_cmp file other ≡ Less) files → below_all path_cmp file.0 files ≡ true
below file [] all = refl
below file (other ∷ files) all = and_from (is_lt (file_cmp file other)) (below_all path_cmp file.0 files) (ap is_lt all.0) (below file files all.1)

strict : (files : List (List ℕ × ℕ)) → IsStrictlySortedBy file_cmp files → is_sorted path_cmp files ≡ true
unfolding IsStrictlySortedBy
strict [] h = refl
strict (file ∷ files) h = and_from (below_all path_cmp file.0 files) (is_sorted path_cmp files) (below file files h.0) (strict files h.1)

-- what is left of files that were sorted, and of which each path then was kept once
pub record IsSortedOut (files left : List (List ℕ × ℕ)) : Type 0 where
  pub each : (file : List ℕ × ℕ) → Contains left file → Contains files file
  pub all : (file : List ℕ × ℕ) → Contains files file → Any (λ other. other.0 ≡ file.0) left
  pub ascending : is_sorted path_cmp left ≡ true

pub sorted_out : (files left : List (List ℕ × ℕ)) → IsSortedOnce file_cmp same_path files left → IsSortedOut files left
sorted_out files left once =
    let moved = once.moved in
    let permuted = once.permuted in
    let is = once.once in
    record {
      each = λ file h. Contains-permutation moved files file (IsPermutation-sym files moved permuted) (Contains-from_dedup same_path moved file (rw is at h));
      all = λ file h. (let found = Any-dedup (on_texts_equal (λ file. file.0)) moved file (Contains-permutation files moved file permuted h) in rw is (found.0, found.1, found.2, found.3, sym ((bytes_eq-Decides file.0 found.1.0).0 found.4)));
      ascending = rw is (strict (dedup same_path moved) (IsStrictlySortedBy-dedup (on_texts (λ file. file.0)) (λ one other. texts_ties one.0 other.0) moved once.sorted));
    }

-- ---- folders

distinct_from : {X : Type 0} {same : X → X → Bool} → IsEquivalence same → (x : X) (xs : List X) → IsDistinct same (x ∷ xs) → dedup_from same x xs ≡ x ∷ xs
distinct_from laws x [] distinct = refl
distinct_from {same = same} laws x (y ∷ ys) distinct =
    ap (λ b. cond b (dedup_from same x ys) (x ∷ dedup_from same y ys)) (laws.symm y x ∙ (IsDistinct-head same x (y ∷ ys) distinct).0)
    ∙ ap (λ zs. x ∷ zs) (distinct_from laws y ys (IsDistinct-tail same x (y ∷ ys) distinct))

-- of members that all differ none is taken
distinct_stays : {X : Type 0} {same : X → X → Bool} → IsEquivalence same → (xs : List X) → IsDistinct same xs → dedup same xs ≡ xs
distinct_stays laws [] distinct = refl
distinct_stays laws (x ∷ xs) distinct = distinct_from laws x xs distinct

abbrev pub same_folder : List ℕ → List ℕ → Bool
same_folder = pointwise nat_eq

-- what is left of folders that were sorted, and each then kept once
pub record AreSortedOut (folders left : List (List ℕ)) : Type 0 where
  pub same : (path : List ℕ) → Contains left path ↔ Contains folders path
  pub ascending : IsStrictlySortedBy path_cmp left
  pub once : AllPairs (λ one other. one ≢ other) folders → IsPermutation folders left

pub folders_out : (folders left : List (List ℕ)) → IsSortedOnce path_cmp same_folder folders left → AreSortedOut folders left
folders_out folders left once =
    let moved = once.moved in
    let permuted = once.permuted in
    let is = once.once in
    record {
      same = λ path. (
        (λ h. Contains-permutation moved folders path (IsPermutation-sym folders moved permuted) (Contains-from_dedup same_folder moved path (rw is at h))),
        (λ h. subst (λ xs. Contains xs path) (sym is) (Contains-dedup nat_list_eq_equiv (λ one other. (bytes_decides one other).0) moved path (Contains-permutation folders moved path permuted h))),
      );
      ascending = rw is (IsStrictlySortedBy-dedup nat_list_cmp_total texts_ties moved once.sorted);
      once = λ unlike.
          let distinct = IsDistinct-IsPermutation same_folder nat_list_eq_equiv.symm folders moved permuted (IsDistinct-from_AllPairs bytes_decides folders unlike) in
          subst (IsPermutation folders) (sym (is ∙ distinct_stays nat_list_eq_equiv moved distinct)) permuted;
    }

-- ---- how many there are

one-place : (path : List ℕ) (kind : EntryKind) → length (file_where path kind) + length (folder_where path kind) ≡ 1
one-place path (File size) = refl
one-place path Folder = refl

pub length-split : (kept : List Kept) → length (files_among kept) + length (folders_among kept) ≡ length kept
length-split [] = refl
length-split (entry ∷ kept) =
    omega (arith, length-append (file_where entry.path entry.kind) (files_among kept), length-append (folder_where entry.path entry.kind) (folders_among kept), one-place entry.path entry.kind, length-split kept)
