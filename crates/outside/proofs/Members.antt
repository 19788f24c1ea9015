-- The files that a tree has, by look-ups, by tests and as members.
use Rattle.std.proofs.Common.{◌≡◌, ℕ, ◌<◌, zero, suc, Bool, true, false, cond, ◌||◌, List, [], ◌∷◌, ◌++◌, length, get_or, filter, Some, Ordering, refl, sym, ap, ◌∙◌, subst, arith, Contains}
use Rattle.std.proofs.lemmas.Bool.{and_parts, both_ways, true_from_ne_false}
use Rattle.std.proofs.lemmas.Cmp.{tied_itself, nat_list_cmp_total}
use Rattle.std.proofs.lemmas.Float.{T_from_true}
use Rattle.std.proofs.lemmas.List.{get_or-map, length-map}
use Rattle.std.proofs.lemmas.List.Elements.{Contains-append_right}
use Rattle.std.proofs.lemmas.List.Folds.{list_any_at, list_all_at}
use Rattle.std.specs.declared.cmp.Ordering.TheVariants.{Less, Equal, Greater}
use Rattle.std.specs.Ordering.{is_lt, is_eq}
use Rattle.std.specs.List.{list_any, list_all}
use Rattle.std.specs.FinMap.Entries.{find, is_sorted, below_all, is_sorted-where_key}
use Rattle.outside.specs.Tree.{Tree, files_of}
use Rattle.outside.proofs.Orders.{order, less, turned, equal_paths}
use Rattle.outside.proofs.Inserts.{true_from_T}

Contains-first : {X : Type 0} (x : X) (xs : List X) → Contains (x ∷ xs) x
Contains-first x xs = (0, omega arith, refl)

Contains-later : {X : Type 0} (y : X) (xs : List X) (x : X) → Contains xs x → Contains (y ∷ xs) x
Contains-later y xs x among = Contains-append_right (y ∷ []) xs x among

-- ---- a filter

pub Contains-from_filter : {X : Type 0} (test : X → Bool) (xs : List X) (x : X) → Contains (filter test xs) x → Contains xs x
Contains-from_filter test [] x among = among
Contains-from_filter test (y ∷ ys) x among = from_filter test y ys x (test y) (Contains-from_filter test ys x) among
  where
    from_filter : {X : Type 0} (test : X → Bool) (y : X) (ys : List X) (x : X) (here : Bool) → (Contains (filter test ys) x → Contains ys x) → Contains (cond here (y ∷ filter test ys) (filter test ys)) x → Contains (y ∷ ys) x
    from_filter test y ys x true later (zero, inside, is) = (0, omega arith, is)
    from_filter test y ys x true later (suc k, inside, is) = Contains-later y ys x (later (k, omega arith, is))
    from_filter test y ys x false later among = Contains-later y ys x (later among)

pub Contains-filter : {X : Type 0} (test : X → Bool) (xs : List X) (x : X) → Contains xs x → test x ≡ true → Contains (filter test xs) x
Contains-filter test [] x (k, inside, is) passes = absurd (omega arith)
Contains-filter test (y ∷ ys) x (zero, inside, is) passes = rw (ap test is ∙ passes) (0, omega arith, is)
Contains-filter test (y ∷ ys) x (suc k, inside, is) passes =
    later test y ys x (test y) (Contains-filter test ys x (k, omega arith, is) passes)
  where
    later : {X : Type 0} (test : X → Bool) (y : X) (ys : List X) (x : X) (here : Bool) → Contains (filter test ys) x → Contains (cond here (y ∷ filter test ys) (filter test ys)) x
    later test y ys x true among = Contains-later y (filter test ys) x among
    later test y ys x false among = among

-- ---- look-ups

pub below_at : (path : List ℕ) (es : Tree) (k : ℕ) (file : List ℕ × List ℕ) → below_all order path es ≡ true → k < length es → get_or es k file ≡ file → is_lt (order path file.0) ≡ true
below_at path [] k file below inside is = absurd (omega arith)
below_at path (e ∷ es) zero file below inside is =
    ap (λ f. is_lt (order path f.0)) (sym is) ∙ (and_parts (is_lt (order path e.0)) (below_all order path es) below).0
below_at path (e ∷ es) (suc k) file below inside is =
    below_at path es k file (and_parts (is_lt (order path e.0)) (below_all order path es) below).1 (omega arith) is

pub member_is_found : (tree : Tree) (file : List ℕ × List ℕ) → is_sorted order tree ≡ true → Contains tree file → find order file.0 tree ≡ Some file.1
member_is_found [] file sorted (k, inside, is) = absurd (omega arith)
member_is_found (e ∷ es) file sorted (zero, inside, is) =
    subst (λ f. find order f.0 (e ∷ es) ≡ Some f.1) is (rw (tied_itself nat_list_cmp_total e.0) refl)
member_is_found (e ∷ es) file sorted (suc k, inside, is) =
    let parts = and_parts (below_all order e.0 es) (is_sorted order es) sorted in
    let later = turned e.0 file.0 Less (less _ (below_at e.0 es k file parts.0 (omega arith) is)) in
    rw later (member_is_found es file parts.1 (k, omega arith, is))

found_at : (path bytes : List ℕ) (e : List ℕ × List ℕ) (es : Tree) (o : Ordering) → order path e.0 ≡ o → cond (is_eq o) (Some e.1) (find order path es) ≡ Some bytes → (find order path es ≡ Some bytes → Contains es (path, bytes)) → Contains (e ∷ es) (path, bytes)
found_at path bytes e es Less is found later = Contains-later e es (path, bytes) (later found)
found_at path bytes e es Equal is found later =
    let keys : path ≡ e.0 = equal_paths path e.0 is in
    let values : e.1 ≡ bytes = cc in
    let same : e ≡ (path, bytes) = λ i. (sym keys i, values i) in
    subst (λ f. Contains (e ∷ es) f) same (Contains-first e es)
found_at path bytes e es Greater is found later = Contains-later e es (path, bytes) (later found)

pub found_is_member : (tree : Tree) (path bytes : List ℕ) → find order path tree ≡ Some bytes → Contains tree (path, bytes)
found_is_member [] path bytes found = cc
found_is_member (e ∷ es) path bytes found = found_at path bytes e es (order path e.0) refl found (found_is_member es path bytes)

-- ---- tests of the paths

any_at : (test : List ℕ → Bool) (e : List ℕ × List ℕ) (es : Tree) (here : Bool) → test e.0 ≡ here → (here || list_any test (files_of es)) ≡ true → (list_any test (files_of es) ≡ true → (file : List ℕ × List ℕ) × Contains es file × (test file.0 ≡ true)) → (file : List ℕ × List ℕ) × Contains (e ∷ es) file × (test file.0 ≡ true)
any_at test e es true is some later = (e, Contains-first e es, is)
any_at test e es false is some later = let found = later some in (found.0, Contains-later e es found.0 found.1, found.2)

pub any_member : (test : List ℕ → Bool) (tree : Tree) → list_any test (files_of tree) ≡ true → (file : List ℕ × List ℕ) × Contains tree file × (test file.0 ≡ true)
any_member test [] some = cc
any_member test (e ∷ es) some = any_at test e es (test e.0) refl some (any_member test es)

path_at : (tree : Tree) (file : List ℕ × List ℕ) (among : Contains tree file) → get_or (files_of tree) among.0 file.0 ≡ file.0
path_at tree file among = get_or-map (λ f. f.0) tree among.0 file file.0 among.1 ∙ ap (λ f. f.0) among.2

pub member_passes_any : (test : List ℕ → Bool) (tree : Tree) (file : List ℕ × List ℕ) → Contains tree file → test file.0 ≡ true → list_any test (files_of tree) ≡ true
member_passes_any test tree file among passes =
    list_any_at test (files_of tree) among.0 file.0 (omega (arith, length-map tree (λ f. f.0), among.1)) (ap test (path_at tree file among) ∙ passes)

pub member_passes_all : (test : List ℕ → Bool) (tree : Tree) (file : List ℕ × List ℕ) → Contains tree file → list_all test (files_of tree) ≡ true → test file.0 ≡ true
member_passes_all test tree file among all =
    true_from_ne_false _ (λ fails. both_ways _ (list_all_at test (files_of tree) among.0 file.0 (omega (arith, length-map tree (λ f. f.0), among.1)) (ap test (path_at tree file among) ∙ fails)) all)

-- ---- what stands before a file is before it in byte order, and has another path

below_mid : (path : List ℕ) (es : Tree) (file : List ℕ × List ℕ) (rest : Tree) → below_all order path (es ++ file ∷ rest) ≡ true → is_lt (order path file.0) ≡ true
below_mid path [] file rest below = (and_parts (is_lt (order path file.0)) (below_all order path rest) below).0
below_mid path (e ∷ es) file rest below =
    below_mid path es file rest (and_parts (is_lt (order path e.0)) (below_all order path (es ++ file ∷ rest)) below).1

pub earlier_is_before : (done : Tree) (file : List ℕ × List ℕ) (rest : Tree) (other : List ℕ × List ℕ) → is_sorted order (done ++ file ∷ rest) ≡ true → Contains done other → is_lt (order other.0 file.0) ≡ true
earlier_is_before [] file rest other sorted (k, inside, is) = absurd (omega arith)
earlier_is_before (e ∷ es) file rest other sorted (zero, inside, is) =
    let below = below_mid e.0 es file rest (and_parts (below_all order e.0 (es ++ file ∷ rest)) (is_sorted order (es ++ file ∷ rest)) sorted).0 in
    subst (λ f. is_lt (order f.0 file.0) ≡ true) is below
earlier_is_before (e ∷ es) file rest other sorted (suc k, inside, is) =
    earlier_is_before es file rest other (and_parts (below_all order e.0 (es ++ file ∷ rest)) (is_sorted order (es ++ file ∷ rest)) sorted).1 (k, omega arith, is)

pub before_is_other : (one other : List ℕ) → is_lt (order one other) ≡ true → one ≡ other → ⊥
before_is_other one other before same =
    both_ways _ (ap is_lt (ap (order one) (sym same) ∙ tied_itself nat_list_cmp_total one)) before

pub is_sorted-filter : (test : List ℕ → Bool) (tree : Tree) → is_sorted order tree ≡ true → is_sorted order (filter (λ file. test file.0) tree) ≡ true
is_sorted-filter test tree sorted = true_from_T _ (is_sorted-where_key order test tree (T_from_true _ sorted))
