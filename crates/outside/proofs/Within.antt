-- Paths that lie within a folder, which begin with it and a slash.
use Rattle.std.proofs.Common.{◌≡◌, ℕ, ◌+◌, ◌<◌, Bool, true, false, not, cond, ◌||◌, ◌==◌, nat_eq, filter, List, [], ◌∷◌, ◌++◌, length, take, drop, get_or, Option, None, Some, is_some, ◌≢◌, option_copied, MatchOption, Bor, refl, sym, ap, ◌∙◌, subst, arith, append_assoc, length-append}
use Rattle.std.proofs.lemmas.Bool.{ne_eqb, not_from_false, or_left, or_right, both_ways, eqb-true, eq-eqb, false_from_ne_true, true_from_ne_false}
use Rattle.std.proofs.lemmas.List.{append_cancel_left, take-append-drop, take_at, get_or_at, drop_more}
use Rattle.std.proofs.lemmas.List.Folds.{Any-from_list_any, list_any_at, list_all_at}
use Rattle.std.proofs.lemmas.Slice.Eq.{starts_is}
use Rattle.std.proofs.lemmas.Cmp.{tied_itself, nat_list_cmp_total}
use Rattle.std.specs.Ordering.{is_eq, eq_by_cmp}
use Rattle.std.specs.List.{starts_with, list_any, list_all}
use Rattle.std.specs.FinMap.Entries.{find, is_some-find}
use Rattle.path_text.specs.Path.{is_normal}
use Rattle.std.proofs.lemmas.List.Prefix.{front_rest}
use Rattle.outside.specs.Tree.{Tree, files_of, within, has_file_within, is_folder}
use Rattle.outside.specs.inner.Walk.{rest_within}
use Rattle.outside.specs.Additions.{has_file_above}
use Rattle.outside.specs.inner.Cut.{has_prefix}
use Rattle.outside.proofs.Orders.{order, equal_order, equal_paths}

pub starts_from : (path prefix rest : List ℕ) → path ≡ prefix ++ rest → starts_with nat_eq path prefix ≡ true
starts_from path prefix rest e = (starts_is (λ a b. (eqb-true a b, eq-eqb a b)) path prefix (starts_with nat_eq path prefix) refl).1 rest e

pub starts_to : (path prefix : List ℕ) → starts_with nat_eq path prefix ≡ true → path ≡ prefix ++ drop (length prefix) path
starts_to path prefix e = (starts_is (λ a b. (eqb-true a b, eq-eqb a b)) path prefix (starts_with nat_eq path prefix) refl).0 e

pub slash_after : (file rest : List ℕ) → (file ++ 47 ∷ []) ++ rest ≡ file ++ 47 ∷ rest
slash_after file rest = append_assoc file (47 ∷ []) rest

pub starts_within : (file rest : List ℕ) → starts_with nat_eq (file ++ 47 ∷ rest) (within file) ≡ true
starts_within [] rest = refl
starts_within (byte ∷ bytes) rest = starts_from _ ((byte ∷ bytes) ++ 47 ∷ []) rest (sym (slash_after (byte ∷ bytes) rest))

any_weaker : {X : Type 0} (p q : X → Bool) (xs : List X) → ((x : X) → p x ≡ true → q x ≡ true) → list_any p xs ≡ true → list_any q xs ≡ true
any_weaker p q [] weaker e = e
any_weaker p q (x ∷ xs) weaker e = any_from p q x xs (p x) refl weaker e (any_weaker p q xs weaker)
  where
    any_from : {X : Type 0} (p q : X → Bool) (x : X) (xs : List X) (here : Bool) → p x ≡ here → ((x : X) → p x ≡ true → q x ≡ true) → (here || list_any p xs) ≡ true → (list_any p xs ≡ true → list_any q xs ≡ true) → (q x || list_any q xs) ≡ true
    any_from p q x xs true is weaker e later = or_left (q x) (list_any q xs) (weaker x is)
    any_from p q x xs false is weaker e later = or_right (q x) (list_any q xs) (later e)

at_slash : (path : List ℕ) (k : ℕ) → k < length path → get_or path k 0 ≡ 47 → path ≡ take k path ++ 47 ∷ drop (k + 1) path
at_slash path k inside slash =
    sym (take-append-drop k path) ∙ ap (λ xs. take k path ++ xs) (drop_more path k 0 inside ∙ ap (λ x. x ∷ drop (k + 1) path) slash)

-- ---- files above a path

pub above_here : (tree : Tree) (path : List ℕ) (k : ℕ) → k < length path → get_or path k 0 ≡ 47 → is_some (find order (take k path) tree) ≡ true → has_file_above tree path ≡ true
above_here tree path k inside slash found =
    any_weaker (eq_by_cmp order (take k path)) (λ file. starts_with nat_eq path (within file)) (files_of tree)
    (λ file tied.
    let same : take k path ≡ file = equal_paths (take k path) file (equal_order _ tied) in
    let cut = at_slash path k inside slash in
    subst (λ f. starts_with nat_eq path (within f) ≡ true) same (subst (λ p. starts_with nat_eq p (within (take k path)) ≡ true) (sym cut) (starts_within (take k path) (drop (k + 1) path))))
    (sym (is_some-find order (take k path) tree) ∙ found)

pub not_empty : (file : List ℕ) → is_normal file ≡ true → within file ≡ file ++ 47 ∷ []
not_empty [] normal = cc
not_empty (byte ∷ bytes) normal = refl

pub above_none : (tree : Tree) (path : List ℕ) → list_all is_normal (files_of tree) ≡ true → ((k : ℕ) → k < length path → get_or path k 0 ≡ 47 → find order (take k path) tree ≡ None) → has_file_above tree path ≡ false
above_none tree path normal none =
    false_from_ne_true _ (λ some.
    let at = Any-from_list_any (λ file. starts_with nat_eq path (within file)) (files_of tree) some in
    let file = at.1 in
    let here : get_or (files_of tree) at.0 file ≡ file = at.3 in
    let own : is_normal file ≡ true = true_from_ne_false _ (λ other. both_ways _ (list_all_at is_normal (files_of tree) at.0 file at.2 (ap is_normal here ∙ other)) normal) in
    let begins : starts_with nat_eq path (file ++ 47 ∷ []) ≡ true = rw (not_empty file own) at at.4 in
    let parts : path ≡ file ++ 47 ∷ drop (length (file ++ 47 ∷ [])) path = starts_to path (file ++ 47 ∷ []) begins ∙ slash_after file _ in
    let slash : get_or path (length file) 0 ≡ 47 = ap (λ p. get_or p (length file) 0) parts ∙ get_or_at file 47 _ 0 (length file) refl in
    let front : take (length file) path ≡ file = ap (take (length file)) parts ∙ take_at file _ (length file) refl in
    let inside : length file < length path = omega (arith, ap length parts, length-append file (47 ∷ drop (length (file ++ 47 ∷ [])) path)) in
    let gone : find order file tree ≡ None = subst (λ p. find order p tree ≡ None) front (none (length file) inside slash) in
    let there : is_some (find order file tree) ≡ true = is_some-find order file tree ∙ list_any_at (eq_by_cmp order file) (files_of tree) at.0 file at.2 (ap (eq_by_cmp order file) here ∙ ap is_eq (tied_itself nat_list_cmp_total file)) in
    both_ways _ (ap is_some gone) there)

pub not_within_itself : (path : List ℕ) → is_normal path ≡ true → starts_with nat_eq path (within path) ≡ false
not_within_itself path normal =
    false_from_ne_true _ (λ begins.
    let parts : path ≡ path ++ 47 ∷ drop (length (path ++ 47 ∷ [])) path = starts_to path (path ++ 47 ∷ []) (rw (not_empty path normal) at begins) ∙ slash_after path _ in
    absurd (omega (arith, ap length parts, length-append path (47 ∷ drop (length (path ++ 47 ∷ [])) path))))

pub any_filter : (prefix : List ℕ) (tree : Tree) → list_any (λ path. starts_with nat_eq path prefix) (files_of tree) ≡ not (length (filter (has_prefix prefix) tree) == 0)
any_filter prefix [] = refl
any_filter prefix (file ∷ files) =
    elim (has_prefix prefix file) as (λ b. (b || list_any (λ path. starts_with nat_eq path prefix) (files_of files)) ≡ not (length (cond b (file ∷ filter (has_prefix prefix) files) (filter (has_prefix prefix) files)) == 0)) [
      | true ↦ sym (not_from_false _ (ne_eqb _ 0 (λ e. omega arith)))
      | false ↦ any_filter prefix files
    ]

pub within_filter : (path : List ℕ) (tree : Tree) → is_normal path ≡ true → has_file_within tree path ≡ not (length (filter (has_prefix (path ++ 47 ∷ [])) tree) == 0)
within_filter path tree normal = rw (not_empty path normal) (any_filter (path ++ 47 ∷ []) tree)

-- ---- what follows a folder in a path

pub not_root : (folder : List ℕ) → (length folder == 0) ≡ false → within folder ≡ folder ++ 47 ∷ []
not_root [] e = cc
not_root (byte ∷ bytes) e = refl

pub folder_is_held : (tree : Tree) (folder : List ℕ) → (length folder == 0) ≡ false → is_folder tree folder ≡ has_file_within tree folder
folder_is_held tree [] e = cc
folder_is_held tree (byte ∷ bytes) e = refl

pub rest_some : (folder path rest : List ℕ) → path ≡ within folder ++ rest → rest_within folder path ≡ Some rest
rest_some folder path rest e = rw (starts_from path (within folder) rest e) (ap (λ xs. Some xs) (front_rest path (within folder) rest e))

pub rest_none : (folder path : List ℕ) → ((rest : List ℕ) → path ≡ within folder ++ rest → ⊥) → rest_within folder path ≡ None
rest_none folder path other = rw (false_from_ne_true _ (λ begins. other _ (starts_to path (within folder) begins))) refl

pub is_some_rest : (folder path : List ℕ) → is_some (rest_within folder path) ≡ starts_with nat_eq path (within folder)
is_some_rest folder path =
    elim (starts_with nat_eq path (within folder)) as (λ b. is_some (cond b (Some (drop (length (within folder)) path)) None) ≡ b) [ true ↦ refl | false ↦ refl ]

pub begins_within : (folder path : List ℕ) → starts_with nat_eq path (within folder) ≡ true → starts_with nat_eq path folder ≡ true
begins_within [] path e = refl
begins_within (byte ∷ bytes) path e =
    starts_from path (byte ∷ bytes) _ (starts_to path ((byte ∷ bytes) ++ 47 ∷ []) e ∙ slash_after (byte ∷ bytes) _)

none_within : (folder : List ℕ) (file : List ℕ × List ℕ) → has_prefix folder file ≡ false → starts_with nat_eq file.0 (within folder) ≡ false
none_within folder file e = false_from_ne_true _ (λ begins. both_ways _ e (begins_within folder file.0 begins))

any_at : (folder : List ℕ) (file : List ℕ × List ℕ) (files : Tree) (here : Bool) → has_prefix folder file ≡ here → list_any (λ f. starts_with nat_eq f.0 (within folder)) (filter (has_prefix folder) files) ≡ has_file_within files folder → list_any (λ f. starts_with nat_eq f.0 (within folder)) (cond here (file ∷ filter (has_prefix folder) files) (filter (has_prefix folder) files)) ≡ (starts_with nat_eq file.0 (within folder) || has_file_within files folder)
any_at folder file files true is later = rw later refl
any_at folder file files false is later = rw (none_within folder file is) later

pub any_within : (folder : List ℕ) (tree : Tree) → list_any (λ file. starts_with nat_eq file.0 (within folder)) (filter (has_prefix folder) tree) ≡ has_file_within tree folder
any_within folder [] = refl
any_within folder (file ∷ files) = any_at folder file files (has_prefix folder file) refl (any_within folder files)

-- the folder taken off, and then a slash where there is one
pub rest_after : (folder path tail : List ℕ) (r : Option (Bor (List ℕ))) → within folder ≡ folder ++ 47 ∷ [] → path ≡ folder ++ tail → MatchOption r ((rest : List ℕ) → tail ≢ 47 ∷ rest) (λ x. tail ≡ 47 ∷ x.now) → option_copied r ≡ rest_within folder path
rest_after folder path tail None slash cut other =
    sym (rest_none folder path (λ rest e. other rest (append_cancel_left folder tail (47 ∷ rest) (sym cut ∙ e ∙ ap (λ xs. xs ++ rest) slash ∙ slash_after folder rest))))
rest_after folder path tail (Some x) slash cut same =
    sym (rest_some folder path x.now (cut ∙ ap (λ xs. folder ++ xs) same ∙ sym (slash_after folder x.now) ∙ ap (λ xs. xs ++ x.now) (sym slash)))
