-- Where a search cuts files that are sorted by path, and what stands on either side.
use Rattle.std.proofs.Common.{◌≡◌, ℕ, ◌+◌, ◌<◌, ◌≤◌, zero, suc, Bool, true, false, not, cond, nat_eq, List, [], ◌∷◌, ◌++◌, length, take, drop, filter, slice_get, Some, None, Ordering, refl, sym, ap, ◌∙◌, subst, arith, append-nil}
use Rattle.std.proofs.lemmas.Bool.{and_parts, and_from, both_ways, not-true, not_from_false, false_from_ne_true}
use Rattle.std.proofs.lemmas.List.{get_or-take, get_or-drop, length-take-le, length-drop, take-append-drop}
use Rattle.std.proofs.lemmas.List.Elements.{All-from_recursion, recursion_from_All, filter-append}
use Rattle.std.specs.declared.cmp.Ordering.TheVariants.{Less, Equal, Greater}
use Rattle.std.specs.Ordering.{is_lt, is_eq}
use Rattle.std.specs.Cmp.Lexicographic.{pointwise, bytes_decides}
use Rattle.std.proofs.lemmas.Cmp.{tied_itself, nat_list_cmp_total}
use Rattle.std.specs.List.{AllByRecursion}
use Rattle.std.specs.List.Sorted.{IsPartitionedBy, IsPartitionPoint}
use Rattle.std.specs.FinMap.Entries.{find, put, by_order, is_sorted, below_all}
use Rattle.outside.specs.inner.Cut.{IsCut, is_before, has_prefix}
use Rattle.outside.proofs.Orders.{order, less, turned, before_trans, equal_paths, prefix_not_before, between}

-- a member that passes has only members that pass before it
abbrev pub IsFalling : {X : Type 0} → (X → Bool) → List X → Type 0
IsFalling test [] = Unit {0}
IsFalling test (x ∷ xs) = AllByRecursion (λ y. test y ≡ true → test x ≡ true) xs × IsFalling test xs

pub partitioned : {X : Type 0} (test : X → Bool) (xs : List X) → IsFalling test xs → IsPartitionedBy test xs
partitioned test [] falls i j d le lt passes = absurd (omega arith)
partitioned test (x ∷ xs) falls zero zero d le lt passes = passes
partitioned test (x ∷ xs) falls zero (suc j) d le lt passes = All-from_recursion _ xs falls.0 j d (omega arith) passes
partitioned test (x ∷ xs) falls (suc i) zero d le lt passes = absurd (omega arith)
partitioned test (x ∷ xs) falls (suc i) (suc j) d le lt passes = partitioned test xs falls.1 i j d (omega arith) (omega arith) passes

pub cut : {X : Type 0} (test : X → Bool) (xs : List X) (n : ℕ) → n ≤ length xs → IsPartitionPoint (λ y. test y ≡ true) (λ y. test y ≡ false) xs n → IsCut test xs n
cut test xs n inside point = record {
  inside = inside;
  passing = recursion_from_All (λ x. test x ≡ true) (take n xs) (λ k d lt.
      let below : k < n = omega (arith, length-take-le n xs inside) in
      rw (get_or-take n xs k d below) (point.0 k d (omega arith) below));
  failing = recursion_from_All (λ x. not (test x) ≡ true) (drop n xs) (λ k d lt.
      rw (get_or-drop n xs k d) (not_from_false _ (point.1 (n + k) d (omega arith) (omega (arith, length-drop n xs)))));
}

-- ---- in files that are sorted, those before a path stand first

below_falls : (path : List ℕ) (e : List ℕ × List ℕ) (es : List (List ℕ × List ℕ)) → below_all order e.0 es ≡ true → AllByRecursion (λ y. is_before path y ≡ true → is_before path e ≡ true) es
below_falls path e [] below = tt
below_falls path e (y ∷ ys) below =
    let parts = and_parts (is_lt (order e.0 y.0)) (below_all order e.0 ys) below in
    (before_trans e.0 y.0 path parts.0, below_falls path e ys parts.1)

pub sorted_falls : (path : List ℕ) (es : List (List ℕ × List ℕ)) → is_sorted order es ≡ true → IsFalling (is_before path) es
sorted_falls path [] sorted = tt
sorted_falls path (e ∷ es) sorted =
    let parts = and_parts (below_all order e.0 es) (is_sorted order es) sorted in
    (below_falls path e es parts.0, sorted_falls path es parts.1)

pub sorted_drop : (n : ℕ) (es : List (List ℕ × List ℕ)) → is_sorted order es ≡ true → is_sorted order (drop n es) ≡ true
sorted_drop zero es sorted = sorted
sorted_drop (suc n) [] sorted = refl
sorted_drop (suc n) (e ∷ es) sorted = sorted_drop n es (and_parts (below_all order e.0 es) (is_sorted order es) sorted).1

-- ---- of those not before a prefix, the ones that begin with it stand first

prefix_below : (prefix : List ℕ) (e : List ℕ × List ℕ) (es : List (List ℕ × List ℕ)) → not (is_before prefix e) ≡ true → below_all order e.0 es ≡ true → AllByRecursion (λ y. has_prefix prefix y ≡ true → has_prefix prefix e ≡ true) es
prefix_below prefix e [] from below = tt
prefix_below prefix e (y ∷ ys) from below =
    let parts = and_parts (is_lt (order e.0 y.0)) (below_all order e.0 ys) below in
    (between prefix e.0 y.0 (not-true _ from) parts.0, prefix_below prefix e ys from parts.1)

pub prefix_falls : (prefix : List ℕ) (es : List (List ℕ × List ℕ)) → is_sorted order es ≡ true → AllByRecursion (λ e. not (is_before prefix e) ≡ true) es → IsFalling (has_prefix prefix) es
prefix_falls prefix [] sorted from = tt
prefix_falls prefix (e ∷ es) sorted from =
    let parts = and_parts (below_all order e.0 es) (is_sorted order es) sorted in
    (prefix_below prefix e es from.0 parts.0, prefix_falls prefix es parts.1 from.1)

filter_all : {X : Type 0} (test : X → Bool) (xs : List X) → AllByRecursion (λ x. test x ≡ true) xs → filter test xs ≡ xs
filter_all test [] all = refl
filter_all test (x ∷ xs) all = rw all.0 (ap (λ ys. x ∷ ys) (filter_all test xs all.1))

filter_none : {X : Type 0} (test : X → Bool) (xs : List X) → AllByRecursion (λ x. not (test x) ≡ true) xs → filter test xs ≡ []
filter_none test [] none = refl
filter_none test (x ∷ xs) none = rw (not-true _ none.0) (filter_none test xs none.1)

no_prefix_before : (prefix : List ℕ) (es : List (List ℕ × List ℕ)) → AllByRecursion (λ e. is_before prefix e ≡ true) es → AllByRecursion (λ e. not (has_prefix prefix e) ≡ true) es
no_prefix_before prefix [] all = tt
no_prefix_before prefix (e ∷ es) all =
    (not_from_false _ (false_from_ne_true _ (λ begins. both_ways _ (prefix_not_before prefix e.0 begins) all.0)), no_prefix_before prefix es all.1)

-- the files with a prefix, by the two cuts round them
pub prefix_filter : (prefix : List ℕ) (es : List (List ℕ × List ℕ)) (n m : ℕ) → IsCut (is_before prefix) es n → IsCut (has_prefix prefix) (drop n es) m → take m (drop n es) ≡ filter (has_prefix prefix) es
prefix_filter prefix es n m first second =
    let test = has_prefix prefix in
    let rest = drop n es in
    let front : filter test (take n es) ≡ [] = filter_none test (take n es) (no_prefix_before prefix (take n es) first.passing) in
    let mid : filter test (take m rest) ≡ take m rest = filter_all test (take m rest) second.passing in
    let end : filter test (drop m rest) ≡ [] = filter_none test (drop m rest) second.failing in
    let tail : filter test rest ≡ take m rest =
    sym (ap (filter test) (take-append-drop m rest)) ∙ filter-append test (take m rest) (drop m rest) ∙ ap (λ ys. ys ++ filter test (drop m rest)) mid ∙ ap (λ ys. take m rest ++ ys) end ∙ append-nil (take m rest) in
    sym (sym (ap (filter test) (take-append-drop n es)) ∙ filter-append test (take n es) rest ∙ ap (λ ys. ys ++ filter test rest) front ∙ tail)

-- ---- a path is found at the cut or nowhere

after : (x y : List ℕ) → is_lt (order x y) ≡ true → order y x ≡ Greater
after x y e = turned x y Less (less _ e)

find_past : (path : List ℕ) (es : List (List ℕ × List ℕ)) (n : ℕ) → AllByRecursion (λ e. is_before path e ≡ true) (take n es) → find order path es ≡ find order path (drop n es)
find_past path es zero before = refl
find_past path [] (suc n) before = refl
find_past path (e ∷ es) (suc n) before = rw (after e.0 path before.0) (find_past path es n before.1)

find_below : (path : List ℕ) (es : List (List ℕ × List ℕ)) → below_all order path es ≡ true → find order path es ≡ None
find_below path [] below = refl
find_below path (e ∷ es) below =
    let parts = and_parts (is_lt (order path e.0)) (below_all order path es) below in
    rw (less _ parts.0) (find_below path es parts.1)

below_all-trans : (x y : List ℕ) (es : List (List ℕ × List ℕ)) → is_lt (order x y) ≡ true → below_all order y es ≡ true → below_all order x es ≡ true
below_all-trans x y [] upto below = refl
below_all-trans x y (e ∷ es) upto below =
    let parts = and_parts (is_lt (order y e.0)) (below_all order y es) below in
    and_from _ _ (before_trans x y e.0 upto parts.0) (below_all-trans x y es upto parts.1)

find_none : (path : List ℕ) (e : List ℕ × List ℕ) (es : List (List ℕ × List ℕ)) (o : Ordering) → order path e.0 ≡ o → is_before path e ≡ false → (o ≡ Equal → ⊥) → below_all order e.0 es ≡ true → find order path (e ∷ es) ≡ None
find_none path e es Less is from other below =
    rw is (find_below path es (below_all-trans path e.0 es (ap is_lt is) below))
find_none path e es Equal is from other below = absurd (other refl)
find_none path e es Greater is from other below =
    absurd (both_ways _ from (ap is_lt (turned path e.0 Greater is)))

-- what the first file that isn't before a path tells of it
find_first : (path : List ℕ) (e : List ℕ × List ℕ) (es : List (List ℕ × List ℕ)) (same : Bool) → pointwise nat_eq e.0 path ≡ same → is_before path e ≡ false → below_all order e.0 es ≡ true → find order path (e ∷ es) ≡ cond same (Some e.1) None
find_first path e es true is from below =
    let equal : path ≡ e.0 = sym ((bytes_decides e.0 path).0 is) in
    let tied : order path e.0 ≡ Equal = subst (λ x. order path x ≡ Equal) equal (tied_itself nat_list_cmp_total path) in
    rw tied refl
find_first path e es false is from below =
    find_none path e es (order path e.0) refl from (λ tied. both_ways _ is ((bytes_decides e.0 path).1 (sym (equal_paths path e.0 tied)))) below

find_in_rest : (path : List ℕ) (rest : List (List ℕ × List ℕ)) (file : List ℕ × List ℕ) → Some file ≡ slice_get rest 0 → is_sorted order rest ≡ true → AllByRecursion (λ e. not (is_before path e) ≡ true) rest → find order path rest ≡ cond (pointwise nat_eq file.0 path) (Some file.1) None
find_in_rest path [] file is sorted from = cc
find_in_rest path (e ∷ es) file is sorted from =
    let parts = and_parts (below_all order e.0 es) (is_sorted order es) sorted in
    let same : e ≡ file = cc in
    subst (λ f. find order path (e ∷ es) ≡ cond (pointwise nat_eq f.0 path) (Some f.1) None) same (find_first path e es (pointwise nat_eq e.0 path) refl (not-true _ from.0) parts.0)

find_in_none : (path : List ℕ) (rest : List (List ℕ × List ℕ)) → None ≡ slice_get rest 0 → find order path rest ≡ None
find_in_none path [] is = refl
find_in_none path (e ∷ es) is = cc

pub find_at : (path : List ℕ) (es : List (List ℕ × List ℕ)) (n : ℕ) (file : List ℕ × List ℕ) → is_sorted order es ≡ true → IsCut (is_before path) es n → Some file ≡ slice_get (drop n es) 0 → find order path es ≡ cond (pointwise nat_eq file.0 path) (Some file.1) None
find_at path es n file sorted first is =
    find_past path es n first.passing ∙ find_in_rest path (drop n es) file is (sorted_drop n es sorted) first.failing

pub find_at_end : (path : List ℕ) (es : List (List ℕ × List ℕ)) (n : ℕ) → IsCut (is_before path) es n → None ≡ slice_get (drop n es) 0 → find order path es ≡ None
find_at_end path es n first is = find_past path es n first.passing ∙ find_in_none path (drop n es) is

-- ---- a new path goes in at the cut

put_first : (path bytes : List ℕ) (e : List ℕ × List ℕ) (es : List (List ℕ × List ℕ)) (o : Ordering) → order path e.0 ≡ o → is_before path e ≡ false → cond (is_eq o) (Some e.1) (find order path es) ≡ None → by_order o ((path, bytes) ∷ e ∷ es) ((e.0, bytes) ∷ es) (e ∷ put order path bytes es) ≡ (path, bytes) ∷ e ∷ es
put_first path bytes e es Less is from none = refl
put_first path bytes e es Equal is from none = cc
put_first path bytes e es Greater is from none = absurd (both_ways _ from (ap is_lt (turned path e.0 Greater is)))

pub put_at : (path bytes : List ℕ) (es : List (List ℕ × List ℕ)) (n : ℕ) → AllByRecursion (λ e. is_before path e ≡ true) (take n es) → AllByRecursion (λ e. not (is_before path e) ≡ true) (drop n es) → find order path es ≡ None → put order path bytes es ≡ take n es ++ (path, bytes) ∷ drop n es
put_at path bytes [] zero before from none = refl
put_at path bytes [] (suc n) before from none = refl
put_at path bytes (e ∷ es) zero before from none = put_first path bytes e es (order path e.0) refl (not-true _ from.0) none
put_at path bytes (e ∷ es) (suc n) before from none =
    let past : order path e.0 ≡ Greater = after e.0 path before.0 in
    let absent : find order path es ≡ None = rw past at none in
    rw past (ap (λ xs. e ∷ xs) (put_at path bytes es n before.1 from absent))
