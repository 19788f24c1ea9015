-- A tree with one file more is a tree.
use Rattle.std.proofs.Common.{◌≡◌, ℕ, Bool, true, false, not, ◌||◌, nat_eq, List, [], ◌∷◌, ◌++◌, take, drop, is_some, suc, cond, Option, Some, None, Ordering, refl, sym, ap, subst, T}
use Rattle.std.proofs.lemmas.Bool.{and_parts, and_from, or_parts, or_from, not-true, not_from_false}
use Rattle.std.proofs.lemmas.Float.{T_from_true}
use Rattle.std.proofs.lemmas.List.{map-append, take-append-drop}
use Rattle.std.proofs.lemmas.Cmp.{nat_list_cmp_total}
use Rattle.std.specs.declared.cmp.Ordering.TheVariants.{Less, Equal, Greater}
use Rattle.std.specs.Ordering.{is_eq}
use Rattle.std.specs.List.{starts_with, list_any, list_all}
use Rattle.std.specs.FinMap.Entries.{find, put, by_order, is_sorted, is_sorted-put}
use Rattle.path_text.specs.Path.{is_normal}
use Rattle.outside.specs.Tree.{Tree, IsTree, bytes_at, files_of, within, has_file_within}
use Rattle.outside.specs.Additions.{clashes, has_file_above}
use Rattle.outside.proofs.Orders.{order}
use Rattle.outside.proofs.Within.{not_within_itself}

all_insert : {X : Type 0} (test : X → Bool) (low high : List X) (x : X) → list_all test (low ++ high) ≡ true → test x ≡ true → list_all test (low ++ x ∷ high) ≡ true
all_insert test [] high x all passes = and_from (test x) (list_all test high) passes all
all_insert test (y ∷ low) high x all passes =
    let parts = and_parts (test y) (list_all test (low ++ high)) all in
    and_from (test y) (list_all test (low ++ x ∷ high)) parts.0 (all_insert test low high x parts.1 passes)

none_insert : {X : Type 0} (test : X → Bool) (low high : List X) (x : X) → list_any test (low ++ high) ≡ false → test x ≡ false → list_any test (low ++ x ∷ high) ≡ false
none_insert test [] high x none fails = or_from (test x) (list_any test high) fails none
none_insert test (y ∷ low) high x none fails =
    let parts = or_parts (test y) (list_any test (low ++ high)) none in
    or_from (test y) (list_any test (low ++ x ∷ high)) parts.0 (none_insert test low high x parts.1 fails)

all_unless : {X : Type 0} (p q r : X → Bool) (xs : List X) → ((x : X) → p x ≡ true → q x ≡ false → r x ≡ true) → list_all p xs ≡ true → list_any q xs ≡ false → list_all r xs ≡ true
all_unless p q r [] gives all none = refl
all_unless p q r (x ∷ xs) gives all none =
    let here = and_parts (p x) (list_all p xs) all in
    let apart = or_parts (q x) (list_any q xs) none in
    and_from (r x) (list_all r xs) (gives x here.0 apart.0) (all_unless p q r xs gives here.1 apart.1)

-- no member is within another, and neither is the new one, either way
apart_insert : {X : Type 0} (inside : X → X → Bool) (low high : List X) (x : X) → list_all (λ y. not (list_any (λ z. inside z y) (low ++ high))) (low ++ high) ≡ true → list_any (λ z. inside z x) (low ++ high) ≡ false → list_any (inside x) (low ++ high) ≡ false → inside x x ≡ false → list_all (λ y. not (list_any (λ z. inside z y) (low ++ x ∷ high))) (low ++ x ∷ high) ≡ true
apart_insert {X = X} inside low high x apart below above itself =
    let old : X → Bool = λ y. not (list_any (λ z. inside z y) (low ++ high)) in
    let new : X → Bool = λ y. not (list_any (λ z. inside z y) (low ++ x ∷ high)) in
    all_insert new low high x
    (all_unless old (inside x) new (low ++ high) (λ y was other. not_from_false _ (none_insert (λ z. inside z y) low high x (not-true _ was) other)) apart above)
    (not_from_false _ (none_insert (λ z. inside z x) low high x below itself))

pub true_from_T : (b : Bool) → T b → b ≡ true
true_from_T true h = refl
true_from_T false h = absurd h

abbrev inside : List ℕ → List ℕ → Bool
inside path folder = starts_with nat_eq path (within folder)

is_tree_between : (low high : Tree) (path bytes : List ℕ) → IsTree (low ++ high) → is_sorted order (low ++ (path, bytes) ∷ high) ≡ true → is_normal path ≡ true → clashes (low ++ high) path ≡ false → IsTree (low ++ (path, bytes) ∷ high)
is_tree_between low high path bytes tree sorted normal free =
    let old : files_of (low ++ high) ≡ files_of low ++ files_of high = map-append (λ file. file.0) low high in
    let new : files_of (low ++ (path, bytes) ∷ high) ≡ files_of low ++ path ∷ files_of high = map-append (λ file. file.0) low ((path, bytes) ∷ high) in
    let parts = or_parts (is_some (bytes_at (low ++ high) path) || has_file_within (low ++ high) path) (has_file_above (low ++ high) path) free in
    let within_free = or_parts (is_some (bytes_at (low ++ high) path)) (has_file_within (low ++ high) path) parts.0 in
    record {
      sorted = sorted;
      normal = subst (λ files. list_all is_normal files ≡ true) (sym new)
          (all_insert is_normal (files_of low) (files_of high) path (subst (λ files. list_all is_normal files ≡ true) old tree.normal) normal);
      apart = subst (λ files. list_all (λ y. not (list_any (λ z. inside z y) files)) files ≡ true) (sym new)
          (apart_insert inside (files_of low) (files_of high) path
          (subst (λ files. list_all (λ y. not (list_any (λ z. inside z y) files)) files ≡ true) old tree.apart)
          (subst (λ files. list_any (λ z. inside z path) files ≡ false) old within_free.1)
          (subst (λ files. list_any (inside path) files ≡ false) old parts.1)
          (not_within_itself path normal));
    }

-- a put of a new path is an insert at some place
put_place : (path bytes : List ℕ) (tree : Tree) → find order path tree ≡ None → (n : ℕ) × (put order path bytes tree ≡ take n tree ++ (path, bytes) ∷ drop n tree)
put_place path bytes [] none = (0, refl)
put_place path bytes (e ∷ es) none = place_at path bytes e es (order path e.0) none (put_place path bytes es)
  where
    place_at : (path bytes : List ℕ) (e : List ℕ × List ℕ) (es : Tree) (o : Ordering) → cond (is_eq o) (Some e.1) (find order path es) ≡ None → (find order path es ≡ None → (n : ℕ) × (put order path bytes es ≡ take n es ++ (path, bytes) ∷ drop n es)) → (n : ℕ) × (by_order o ((path, bytes) ∷ e ∷ es) ((e.0, bytes) ∷ es) (e ∷ put order path bytes es) ≡ take n (e ∷ es) ++ (path, bytes) ∷ drop n (e ∷ es))
    place_at path bytes e es Less none later = (0, refl)
    place_at path bytes e es Equal none later = cc
    place_at path bytes e es Greater none later = let place = later none in (suc place.0, ap (λ xs. e ∷ xs) place.1)

absent : {A : Type 0} (o : Option A) → is_some o ≡ false → o ≡ None
absent None e = refl
absent (Some x) e = cc

pub is_absent : (tree : Tree) (path : List ℕ) → clashes tree path ≡ false → find order path tree ≡ None
is_absent tree path free =
    absent (find order path tree) (or_parts (is_some (bytes_at tree path)) (has_file_within tree path) (or_parts (is_some (bytes_at tree path) || has_file_within tree path) (has_file_above tree path) free).0).0

pub is_tree_put : (tree : Tree) (path bytes : List ℕ) → IsTree tree → is_normal path ≡ true → clashes tree path ≡ false → IsTree (put order path bytes tree)
is_tree_put tree path bytes is normal free =
    let place = put_place path bytes tree (is_absent tree path free) in
    let n = place.0 in
    let whole : take n tree ++ drop n tree ≡ tree = take-append-drop n tree in
    let sorted : is_sorted order (put order path bytes tree) ≡ true = true_from_T _ (is_sorted-put order nat_list_cmp_total path bytes tree (T_from_true _ is.sorted)) in
    subst IsTree (sym place.1)
    (is_tree_between (take n tree) (drop n tree) path bytes
    (subst IsTree (sym whole) is)
    (subst (λ t. is_sorted order t ≡ true) place.1 sorted)
    normal
    (subst (λ t. clashes t path ≡ false) (sym whole) free))
