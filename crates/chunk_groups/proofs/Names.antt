-- Names in the order of their bytes, each once: there is one list of them.
use Rattle.std.proofs.Common.{◌≡◌, ℕ, zero, suc, ◌+◌, inl, inr, Bool, true, false, List, [], ◌∷◌, map, get_or, refl, sym, ap, subst, ◌∙◌, arith}
use Rattle.std.specs.Prelude.{Contains, T, ◌&&◌, nat_eq, Option, None, Some, is_some, Err}
use Rattle.std.specs.List.{AllByRecursion, dedup, list_any}
use Rattle.std.specs.List.Sorted.{IsBinarySearchResult, IsStrictlySortedBy, IsSorted, IsPermutation}
use Rattle.std.specs.Ordering.{is_lt, is_eq, nat_cmp, eq_by_cmp, ordering_reverse}
use Rattle.std.specs.Cmp.{IsEquivalence, eq_by_cmp_equiv, Equal-is}
use Rattle.std.specs.Cmp.Lexicographic.{pointwise, slice_cmp, nat_list_cmp_total, nat_list_eq_equiv, texts_ties}
use Rattle.std.specs.FinMap.{FinMap, contains_key-keys, entries, entries-from_sorted, entries_sorted, from_entries, from_sorted, get-from_entries, get-from_sorted, keys, nat_cmp-IsAntisymmetric, same_map, slice_cmp-IsAntisymmetric}
use Rattle.std.specs.FinMap.Entries.{below_all, find, is_some-find, is_sorted}
use Rattle.std.specs.declared.cmp.Ordering.{Ordering}
use Rattle.std.specs.declared.cmp.Ordering.TheVariants.{Less, Equal, Greater}
use Rattle.std.proofs.lemmas.Bool.{cases_lt, false≢true}
use Rattle.std.proofs.lemmas.Cmp.{tied_itself}
use Rattle.std.proofs.lemmas.List.{get_or_default}
use Rattle.std.proofs.lemmas.List.Kept.{Contains-dedup, Contains-from_dedup, IsStrictlySortedBy-dedup}
use Rattle.std.proofs.lemmas.List.Sorted.{Contains-permutation, IsPermutation-sym, searchable_from_sorted}
use Rattle.std.proofs.lemmas.Slice.Eq.{bytes_eq-Decides}
use Rattle.std.proofs.lemmas.Map.Views.{list_any-from_Contains, Contains-from_any}
use Rattle.chunk_groups.specs.ChunkNames.{each_once}
use Rattle.chunk_groups.proofs.Marks.{contains-none}

abbrev by_bytes : List ℕ → List ℕ → Ordering
by_bytes = slice_cmp nat_cmp

abbrev pub IsAscending : List (List ℕ) → Type 0
IsAscending = IsStrictlySortedBy by_bytes

pub one_order : (x y : List ℕ) → by_bytes x y ≡ Equal → x ≡ y
one_order = slice_cmp-IsAntisymmetric nat_cmp-IsAntisymmetric

abbrev entry : List ℕ → List ℕ × Unit {0}
entry name = (name, tt)

both : (a b : Bool) → T a → T b → T (a && b)
both true b one other = other
both false b one other = absurd one

first_of : (a b : Bool) → T (a && b) → T a
first_of true b held = tt
first_of false b held = absurd held

second_of : (a b : Bool) → T (a && b) → T b
second_of true b held = held
second_of false b held = absurd held

lt-of : (r : Ordering) → r ≡ Less → T (is_lt r)
lt-of r is = subst (λ o. T (is_lt o)) (sym is) tt

less-of : (r : Ordering) → T (is_lt r) → r ≡ Less
less-of Less held = refl
less-of Equal held = absurd held
less-of Greater held = absurd held

below-entries : (name : List ℕ) (names : List (List ℕ)) → AllByRecursion (λ y. by_bytes name y ≡ Less) names → T (below_all by_bytes name (map entry names))
below-entries name [] all = tt
below-entries name (y ∷ ys) all = both (is_lt (by_bytes name y)) _ (lt-of (by_bytes name y) all.0) (below-entries name ys all.1)

sorted-entries : (names : List (List ℕ)) → IsAscending names → T (is_sorted by_bytes (map entry names))
unfolding IsStrictlySortedBy
sorted-entries [] up = tt
sorted-entries (name ∷ names) up = both (below_all by_bytes name (map entry names)) _ (below-entries name names up.0) (sorted-entries names up.1)

below-keys : (name : List ℕ) (es : List (List ℕ × Unit {0})) → T (below_all by_bytes name es) → AllByRecursion (λ y. by_bytes name y ≡ Less) (map (λ e. e.0) es)
below-keys name [] held = tt
below-keys name (e ∷ es) held = (less-of (by_bytes name e.0) (first_of _ _ held), below-keys name es (second_of (is_lt (by_bytes name e.0)) _ held))

sorted-keys : (es : List (List ℕ × Unit {0})) → T (is_sorted by_bytes es) → IsAscending (map (λ e. e.0) es)
unfolding IsStrictlySortedBy
sorted-keys [] held = tt
sorted-keys (e ∷ es) held = (below-keys e.0 es (first_of _ _ held), sorted-keys es (second_of (below_all by_bytes e.0 es) _ held))

abbrev Names : Type 0
Names = FinMap by_bytes (Unit {0})

pub keys-ascend : (names : Names) → IsAscending (keys names)
keys-ascend names = sorted-keys (entries names) (entries_sorted names)

keys-back : (names : List (List ℕ)) → map (λ e. e.0) (map entry names) ≡ names
keys-back [] = refl
keys-back (name ∷ names) = ap (λ l. name ∷ l) (keys-back names)

finds : (q : List ℕ) (names : List (List ℕ)) → Contains names q → list_any (eq_by_cmp by_bytes q) names ≡ true
finds = list_any-from_Contains (eq_by_cmp_equiv nat_list_cmp_total)

found : (q : List ℕ) (names : List (List ℕ)) → list_any (eq_by_cmp by_bytes q) names ≡ true → Contains names q
found = Contains-from_any {eq = eq_by_cmp by_bytes} (λ x y tied. one_order x y ((Equal-is (by_bytes x y)).0 tied))

is-found : (q : List ℕ) (names : List (List ℕ)) → is_some (find by_bytes q (map entry names)) ≡ list_any (eq_by_cmp by_bytes q) names
is-found q names = is_some-find by_bytes q (map entry names) ∙ ap (list_any (eq_by_cmp by_bytes q)) (keys-back names)

alike : (a b : Bool) → (a ≡ true → b ≡ true) → (b ≡ true → a ≡ true) → a ≡ b
alike true b there back = sym (there refl)
alike false true there back = back refl
alike false false there back = refl

same-some : (a b : Option (Unit {0})) → is_some a ≡ is_some b → a ≡ b
same-some None None is = refl
same-some None (Some u) is = absurd (false≢true is)
same-some (Some u) None is = absurd (false≢true (sym is))
same-some (Some u) (Some v) is = refl

-- ascending names that are just those of a list are the keys of its map
pub names-are : (xs names : List (List ℕ)) → IsAscending names → ((q : List ℕ) → Contains names q → Contains xs q) → ((q : List ℕ) → Contains xs q → Contains names q) → names ≡ each_once xs
names-are xs names up there back =
    let sorted = sorted-entries names up in
    let mine : Names = from_sorted (map entry names) in
    let are : keys mine ≡ names = ap (map (λ e. e.0)) (entries-from_sorted by_bytes (map entry names) sorted) ∙ keys-back names in
    let alike_at : (q : List ℕ) → find by_bytes q (map entry names) ≡ find by_bytes q (map entry xs) = λ q. same-some _ _ (is-found q names
    ∙ alike _ _ (λ held. finds q xs (there q (found q names held))) (λ held. finds q names (back q (found q xs held))) ∙ sym (is-found q xs)) in
    let same : mine ≡ from_entries (map entry xs) = same_map nat_list_cmp_total one_order mine (from_entries (map entry xs)) (λ q.
    get-from_sorted by_bytes (map entry names) q sorted ∙ alike_at q ∙ sym (get-from_entries nat_list_cmp_total (map entry xs) q)) in
    sym are ∙ ap keys same

is-key : (xs : List (List ℕ)) (q : List ℕ) → list_any (eq_by_cmp by_bytes q) (each_once xs) ≡ list_any (eq_by_cmp by_bytes q) xs
is-key xs q = sym (contains_key-keys (from_entries (map entry xs)) q) ∙ ap is_some (get-from_entries nat_list_cmp_total (map entry xs) q) ∙ is-found q xs

-- each name once: those of the list and no others
pub once-have : (xs : List (List ℕ)) (q : List ℕ) → Contains xs q → Contains (each_once xs) q
once-have xs q there = found q (each_once xs) (is-key xs q ∙ finds q xs there)

pub once-only : (xs : List (List ℕ)) (q : List ℕ) → Contains (each_once xs) q → Contains xs q
once-only xs q there = found q xs (sym (is-key xs q) ∙ finds q (each_once xs) there)

later-less : (name : List ℕ) (names : List (List ℕ)) → AllByRecursion (λ y. by_bytes name y ≡ Less) names → (y : List ℕ) → Contains names y → by_bytes name y ≡ Less
later-less name [] all y found = absurd (contains-none y found)
later-less name (z ∷ zs) all y (zero, l, e) = subst (λ (w : List ℕ). by_bytes name w ≡ Less) e all.0
later-less name (z ∷ zs) all y (suc k, l, e) = later-less name zs all.1 y (k, omega arith, e)

-- no name stands again behind itself
abbrev pub AreApart : List (List ℕ) → Type 0
AreApart [] = Unit {0}
AreApart (name ∷ names) = (Contains names name → ⊥) × AreApart names

not-less : (r : Ordering) → r ≡ Less → r ≡ Equal → ⊥
not-less Less less equal = false≢true (ap is_lt (sym equal))
not-less Equal less equal = false≢true (ap is_lt less)
not-less Greater less equal = false≢true (ap is_lt less)

not-greater : (r : Ordering) → r ≡ Greater → r ≡ Equal → ⊥
not-greater Less greater equal = false≢true (ap is_lt (sym greater))
not-greater Equal greater equal = absurd (subst (λ o. T (is_eq o)) greater tt)
not-greater Greater greater equal = absurd (subst (λ o. T (is_eq o)) (sym equal) tt)

pub apart : (names : List (List ℕ)) → IsAscending names → AreApart names
unfolding IsStrictlySortedBy
apart [] up = tt
apart (name ∷ names) up = (λ found. not-less _ (later-less name names up.0 name found) (tied_itself nat_list_cmp_total name), apart names up.1)

turned : (x y : List ℕ) → by_bytes x y ≡ Less → is_lt (by_bytes y x) ≡ false
turned x y less = ap is_lt (nat_list_cmp_total.antisymm y x ∙ ap ordering_reverse less)

-- ascending names are sorted
pub ascending-sorted : (names : List (List ℕ)) → IsAscending names → IsSorted by_bytes names
unfolding IsStrictlySortedBy
ascending-sorted [] up k d low within = absurd (omega arith)
ascending-sorted (name ∷ names) up zero d low within = turned name (get_or names 0 d) (later-less name names up.0 (get_or names 0 d) (0, omega arith, get_or_default names 0 (get_or names 0 d) d (omega arith)))
ascending-sorted (name ∷ names) up (suc k) d low within =
    let next : suc k + 1 ≡ suc (k + 1) = omega arith in
    rw next (ascending-sorted names up.1 k d (omega arith) (omega arith))

-- sorted names without those that stand twice
pub deduped : (xs sorted names : List (List ℕ)) → IsPermutation xs sorted → IsSorted by_bytes sorted → names ≡ dedup (pointwise nat_eq) sorted → names ≡ each_once xs
deduped xs sorted names moved up is =
    let equal : IsEquivalence (pointwise nat_eq) = nat_list_eq_equiv in
    let same : (x y : List ℕ) → pointwise nat_eq x y ≡ true → x ≡ y = λ x y tied. (bytes_eq-Decides x y).0 tied in
    is ∙ names-are xs (dedup (pointwise nat_eq) sorted) (IsStrictlySortedBy-dedup nat_list_cmp_total texts_ties sorted up)
    (λ q found. Contains-permutation sorted xs q (IsPermutation-sym xs sorted moved) (Contains-from_dedup (pointwise nat_eq) sorted q found))
    (λ q found. Contains-dedup equal same sorted q (Contains-permutation xs sorted q moved found))

-- a name that is there is where a search by halving ends
pub searched-name : (names : List (List ℕ)) (name : List ℕ) (place : ℕ) → IsSorted by_bytes names → Contains names name → IsBinarySearchResult (λ y. by_bytes y name) names (Err place) → ⊥
searched-name names name place up (k, l, e) result =
    let parts = result (searchable_from_sorted nat_list_cmp_total (λ x. x) names name up) in
    let equal : by_bytes (get_or names k name) name ≡ Equal = subst (λ (x : List ℕ). by_bytes x name ≡ Equal) (sym e) (tied_itself nat_list_cmp_total name) in
    elim (cases_lt k place) [
      | inl before ↦ not-less _ (parts.0 k name (omega arith) before) equal
      | inr after ↦ not-greater _ (parts.1 k name after l) equal
    ]
