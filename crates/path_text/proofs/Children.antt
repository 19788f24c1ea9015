-- Lemmas on a path's segments one by one: a normal path, and a folder with one name more.
use Rattle.std.proofs.Common.{◌≡◌, ◌≢◌, ℕ, ◌-◌, ◌<◌, Bool, true, false, not, cond, List, [], ◌∷◌, ◌++◌, length, get_or, Some, Ok, refl, sym, ap, ◌∙◌, subst, inl, inr, arith}
use Rattle.std.proofs.lemmas.Bool.{and_parts, or_parts, not-true, eq-eqb, both_ways}
use Rattle.std.proofs.lemmas.Grind.{common_steps, get_or_tail}
use Rattle.std.proofs.lemmas.List.{append_assoc, get_or_at, get_or-append_right, take_at}
use Rattle.std.proofs.lemmas.List.Folds.{list_any_at}
use Rattle.std.proofs.lemmas.List.Splits.{join_with_byte-slice_split}
use Rattle.std.specs.List.{AllByRecursion, list_any, list_all, onto_first}
use Rattle.path_text.specs.Child.{IsSegment, child_of}
use Rattle.path_text.specs.Path.{segments, path_of, folder_segments, step_from, walk_from, is_here, is_up, is_name, is_slash, is_forbidden, is_normal, IsNormal, IsFolderPath, begins_with_slash, join_of, normal_of, parent_of}
use Rattle.path_text.proofs.Names.{IsPlain, split_none, segments-path_of, path_of-folder, folder_segments-plain, join_of-folder}
use Rattle.path_text.proofs.Parents.{parent_of-at, parent_of-none}
use Rattle.path_text.proofs.Walks.{join_of_walk}

-- ---- what a normal path is made of

has_names : (path : List ℕ) → IsNormal path → list_all is_name (segments path) ≡ true
has_names path normal = (and_parts (list_all is_name (segments path)) (not (list_any is_forbidden path)) normal).0

is_allowed : (path : List ℕ) → IsNormal path → list_any is_forbidden path ≡ false
is_allowed path normal = not-true _ (and_parts (list_all is_name (segments path)) (not (list_any is_forbidden path)) normal).1

relative_at : (byte : ℕ) (parts : List (List ℕ)) (slash : Bool) → list_all is_name (cond slash ([] ∷ parts) (onto_first byte parts)) ≡ true → slash ≡ false
relative_at byte parts true names = cc
relative_at byte parts false names = refl

is_relative : (path : List ℕ) → IsNormal path → begins_with_slash path ≡ false
is_relative [] normal = refl
is_relative (byte ∷ bytes) normal = relative_at byte (segments bytes) (is_slash byte) (has_names (byte ∷ bytes) normal)

-- ---- a walk along names adds them

step-name : (kept : List (List ℕ)) (name : List ℕ) → is_name name ≡ true → step_from kept name ≡ Some (kept ++ name ∷ [])
step-name kept name own =
    let parts = or_parts (is_here name) (is_up name) (not-true _ own) in
    rw (parts.0, parts.1)

walk-names : (kept parts : List (List ℕ)) → list_all is_name parts ≡ true → walk_from kept parts ≡ Some (kept ++ parts)
walk-names kept [] names = grind (arith, common_steps)
walk-names kept (part ∷ parts) names =
    let split = and_parts (is_name part) (list_all is_name parts) names in
    rw (step-name kept part split.0) (walk-names (kept ++ part ∷ []) parts split.1 ∙ ap (λ xs. Some xs) (append_assoc kept (part ∷ []) parts))

pub normal_of-normal : (path : List ℕ) → IsNormal path → normal_of path ≡ Ok path
normal_of-normal path normal =
    join_of_walk [] path (segments path) (is_allowed path normal) (is_relative path normal) (walk-names [] (segments path) (has_names path normal))
    ∙ ap (λ xs. Ok xs) (join_with_byte-slice_split 47 path)

-- ---- a folder and one name more

path_of-push : (first : List ℕ) (rest : List (List ℕ)) (name : List ℕ) → path_of ((first ∷ rest) ++ name ∷ []) ≡ path_of (first ∷ rest) ++ 47 ∷ name
path_of-push first [] name = refl
path_of-push first (next ∷ rest) name =
    ap (λ xs. first ++ 47 ∷ xs) (path_of-push next rest name) ∙ sym (append_assoc first (47 ∷ path_of (next ∷ rest)) (47 ∷ name))

pushed : (parts : List (List ℕ)) (name : List ℕ) (byte : ℕ) (bytes : List ℕ) → path_of parts ≡ byte ∷ bytes → path_of (parts ++ name ∷ []) ≡ (byte ∷ bytes) ++ 47 ∷ name
pushed [] name byte bytes e = cc
pushed (first ∷ rest) name byte bytes e = path_of-push first rest name ∙ ap (λ xs. xs ++ 47 ∷ name) e

child-path : (folder name : List ℕ) → path_of (folder_segments folder ++ name ∷ []) ≡ child_of folder name
child-path [] name = refl
child-path (byte ∷ bytes) name = pushed (segments (byte ∷ bytes)) name byte bytes (join_with_byte-slice_split 47 (byte ∷ bytes))

segment-parts : (name : List ℕ) → IsSegment name → IsNormal name × (list_any is_slash name ≡ false)
segment-parts name own =
    let parts = and_parts (is_normal name) (not (list_any is_slash name)) own in
    (parts.0, not-true _ parts.1)

pub join_of-segment : (folder name : List ℕ) → IsFolderPath folder → IsSegment name → join_of folder name ≡ Ok (child_of folder name)
join_of-segment folder name normal own =
    let parts = segment-parts name own in
    let alone = split_none name parts.1 in
    let named : list_all is_name (name ∷ []) ≡ true = rw alone at (has_names name parts.0) in
    let walk : walk_from (folder_segments folder) (segments name) ≡ Some (folder_segments folder ++ name ∷ []) = rw alone (walk-names (folder_segments folder) (name ∷ []) named) in
    join_of_walk folder name (folder_segments folder ++ name ∷ []) (is_allowed name parts.0) (is_relative name parts.0) walk
    ∙ ap (λ xs. Ok xs) (child-path folder name)

child-full : (folder name : List ℕ) → IsSegment name → child_of folder name ≡ [] → ⊥
child-full [] [] own e = cc
child-full [] (byte ∷ bytes) own e = cc
child-full (byte ∷ bytes) name own e = cc

normal_unless_root : (path : List ℕ) → (path ≡ [] → ⊥) → IsFolderPath path → IsNormal path
normal_unless_root path full (inl e) = absurd (full e)
normal_unless_root path full (inr normal) = normal

pub child_of-normal : (folder name : List ℕ) → IsFolderPath folder → IsSegment name → IsNormal (child_of folder name)
child_of-normal folder name normal own =
    normal_unless_root (child_of folder name) (child-full folder name own) (join_of-folder folder name (child_of folder name) normal (join_of-segment folder name normal own))

-- ---- the folder of such a path

lacks_slash : (name : List ℕ) → list_any is_slash name ≡ false → (i : ℕ) → i < length name → get_or name i 0 ≢ 47
lacks_slash name none i within slash = both_ways (list_any is_slash name) none (list_any_at is_slash name i 0 within (eq-eqb (get_or name i 0) 47 slash))

after_folder : (folder name : List ℕ) → list_any is_slash name ≡ false → (i : ℕ) → length folder < i → i < length (folder ++ 47 ∷ name) → get_or (folder ++ 47 ∷ name) i 0 ≢ 47
after_folder folder name none i past within slash =
    let right : get_or (folder ++ 47 ∷ name) i 0 ≡ get_or (47 ∷ name) (i - length folder) 0 = get_or-append_right folder (47 ∷ name) (length folder) i 0 refl (omega arith) in
    let tail : get_or (47 ∷ name) (i - length folder) 0 ≡ get_or name (i - length folder - 1) 0 = get_or_tail 47 name (i - length folder) 0 (omega arith) in
    lacks_slash name none (i - length folder - 1) (grind (arith, common_steps)) (sym tail ∙ sym right ∙ slash)

below : (folder name : List ℕ) → list_any is_slash name ≡ false → parent_of (folder ++ 47 ∷ name) ≡ folder
below folder name none =
    sym (parent_of-at (folder ++ 47 ∷ name) (length folder) (grind (arith, common_steps)) (get_or_at folder 47 name 0 (length folder) refl) (after_folder folder name none))
    ∙ take_at folder (47 ∷ name) (length folder - 0) (omega arith)

child_below : (folder name : List ℕ) → list_any is_slash name ≡ false → parent_of (child_of folder name) ≡ folder
child_below [] name none = sym (parent_of-none name (lacks_slash name none))
child_below (byte ∷ bytes) name none = below (byte ∷ bytes) name none

pub parent_of-child : (folder name : List ℕ) → IsSegment name → parent_of (child_of folder name) ≡ folder
parent_of-child folder name own = child_below folder name (segment-parts name own).1

-- ---- the folder of a normal path

-- a list with an element is a front and its last element
last_of : (first : List ℕ) (rest : List (List ℕ)) → (front : List (List ℕ)) × (last : List ℕ) × (first ∷ rest ≡ front ++ last ∷ [])
last_of first [] = ([], first, refl)
last_of first (next ∷ rest) =
    let more = last_of next rest in
    (first ∷ more.0, more.1, ap (λ xs. first ∷ xs) more.2)

front-plain : (front : List (List ℕ)) (last : List ℕ) → AllByRecursion IsPlain (front ++ last ∷ []) → AllByRecursion IsPlain front × IsPlain last
front-plain [] last all = (tt, all.0)
front-plain (first ∷ rest) last all =
    let more = front-plain rest last all.1 in
    ((all.0, more.0), more.1)

path_of-full : (first : List ℕ) (rest : List (List ℕ)) (path : List ℕ) → AllByRecursion IsPlain (first ∷ rest) → path_of (first ∷ rest) ≡ path → (last : List ℕ) → path ++ 47 ∷ last ≡ child_of path last
path_of-full first rest [] all e last =
    let same : first ∷ rest ≡ [] ∷ [] = sym (segments-path_of first rest all) ∙ ap segments e in
    let none : first ≡ [] = cc in
    let not_own : is_name first ≡ false = ap is_name none in
    absurd (both_ways (is_name first) not_own all.0.0)
path_of-full first rest (byte ∷ bytes) all e last = refl

front-child : (front : List (List ℕ)) (last : List ℕ) → AllByRecursion IsPlain front → path_of (front ++ last ∷ []) ≡ child_of (path_of front) last
front-child [] last all = refl
front-child (first ∷ rest) last all = path_of-push first rest last ∙ path_of-full first rest (path_of (first ∷ rest)) all refl last

parent_of-front : (front : List (List ℕ)) (last : List ℕ) → AllByRecursion IsPlain (front ++ last ∷ []) → IsFolderPath (parent_of (path_of (front ++ last ∷ [])))
parent_of-front front last all =
    let parts = front-plain front last all in
    let same : parent_of (path_of (front ++ last ∷ [])) ≡ path_of front = ap parent_of (front-child front last parts.0) ∙ child_below (path_of front) last parts.1.1.0 in
    subst IsFolderPath (sym same) (path_of-folder front parts.0)

parent_of-parts : (parts : List (List ℕ)) → AllByRecursion IsPlain parts → IsFolderPath (parent_of (path_of parts))
parent_of-parts [] all = inl refl
parent_of-parts (first ∷ rest) all =
    let cut = last_of first rest in
    subst (λ xs. IsFolderPath (parent_of (path_of xs))) (sym cut.2) (parent_of-front cut.0 cut.1 (subst (AllByRecursion IsPlain) cut.2 all))

pub parent_of-normal : (path : List ℕ) → IsNormal path → IsFolderPath (parent_of path)
parent_of-normal [] normal = inl refl
parent_of-normal (byte ∷ bytes) normal =
    subst (λ xs. IsFolderPath (parent_of xs)) (join_with_byte-slice_split 47 (byte ∷ bytes))
    (parent_of-parts (segments (byte ∷ bytes)) (folder_segments-plain (byte ∷ bytes) (inr normal)))
