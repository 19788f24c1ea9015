-- The first segment of what follows a folder in a path, and the entry that it names.
use Rattle.std.proofs.Common.{◌≡◌, ℕ, ◌<◌, ◌≤◌, Bool, true, false, not, cond, ◌==◌, List, [], ◌∷◌, ◌++◌, length, take, drop, get_or, nat_eq, Some, None, option_map, refl, sym, ap, ◌∙◌, subst, arith, ◌⊎◌, inl, inr}
use Rattle.std.proofs.lemmas.Bool.{and_parts, and_from, or_parts, both_ways, not-true, not_from_false, false_from_ne_true, eqb-true, ne_eqb, lt-ltb, le-ltb, cases_lt}
use Rattle.std.proofs.lemmas.List.{take_all, take_at, get_or-take, get_or_append_left, get_or_at, length-take, length-append, take-append-drop}
use Rattle.std.proofs.lemmas.List.Elements.{All-from_get_or}
use Rattle.std.proofs.lemmas.List.Folds.{list_any_at, list_any_none, list_any-append}
use Rattle.std.proofs.lemmas.List.Splits.{slice_split_none, slice_split_first}
use Rattle.std.proofs.lemmas.List.Sums.{position_or_len_is, fails_before_first, passes_at_first, split_at_first}
use Rattle.std.specs.List.{list_any, list_all, position_or_len, before_first, after_first, onto_first, starts_with}
use Rattle.path_text.specs.Child.{IsSegment, child_of}
use Rattle.path_text.specs.Path.{segments, is_name, is_slash, is_forbidden, is_normal}
use Rattle.outside.specs.Tree.{within}
use Rattle.outside.specs.inner.Walk.{kind_of_rest, entry_of_rest, child_in}
use Rattle.outside.specs.declared.entry.DirEntry.{DirEntry}
use Rattle.outside.specs.declared.entry.EntryKind.TheVariants.{File, Folder}
use Rattle.outside.proofs.Within.{slash_after, rest_some, starts_to}

-- ---- a name up to the first slash

pub has_no_slash : (rest : List ℕ) → list_any is_slash (before_first is_slash rest) ≡ false
has_no_slash rest =
    let n = position_or_len is_slash rest in
    list_any_none is_slash (take n rest) (λ k d inside.
    let below : k < n = omega (arith, length-take n rest) in
    rw (get_or-take n rest k d below) (fails_before_first is_slash rest k d below))

fails_at : (name : List ℕ) → list_any is_slash name ≡ false → (k : ℕ) → k < length name → is_slash (get_or name k 0) ≡ false
fails_at name none k inside = false_from_ne_true _ (λ slash. both_ways _ none (list_any_at is_slash name k 0 inside slash))

first_alone : (name : List ℕ) → list_any is_slash name ≡ false → position_or_len is_slash name ≡ length name
first_alone name none = position_or_len_is is_slash name (length name) 0 (omega arith) (fails_at name none) (λ past. absurd (omega arith))

first_before : (name more : List ℕ) → list_any is_slash name ≡ false → position_or_len is_slash (name ++ 47 ∷ more) ≡ length name
first_before name more none =
    position_or_len_is is_slash (name ++ 47 ∷ more) (length name) 0 (omega (arith, length-append name (47 ∷ more)))
    (λ k inside. rw (get_or_append_left name (47 ∷ more) 0 k inside) (fails_at name none k inside))
    (λ inside. ap is_slash (get_or_at name 47 more 0 (length name) refl))

pub entry_alone : (name : List ℕ) (count : ℕ) → list_any is_slash name ≡ false → entry_of_rest name count ≡ record { name = name; kind = File count }
entry_alone name count none =
    let first = first_alone name none in
    rw (first, take_all (length name) name (omega arith), le-ltb (length name) (length name) (omega arith)) refl

pub entry_before : (name more : List ℕ) (count : ℕ) → list_any is_slash name ≡ false → entry_of_rest (name ++ 47 ∷ more) count ≡ record { name = name; kind = Folder }
entry_before name more count none =
    let first = first_before name more none in
    let inside : length name < length (name ++ 47 ∷ more) = omega (arith, length-append name (47 ∷ more)) in
    rw (first, take_at name (47 ∷ more) (length name) refl, lt-ltb (length name) (length (name ++ 47 ∷ more)) inside) refl

-- what follows a folder is a name, or a name, a slash and more
pub record IsNameAlone (rest : List ℕ) (count : ℕ) : Type 0 where
  pub name : before_first is_slash rest ≡ rest
  pub kind : kind_of_rest rest count ≡ File count

pub record HasNameBefore (rest : List ℕ) (count : ℕ) : Type 0 where
  pub parts : rest ≡ before_first is_slash rest ++ 47 ∷ after_first is_slash rest
  pub inside : position_or_len is_slash rest < length rest
  pub kind : kind_of_rest rest count ≡ Folder

pub name_cases : (rest : List ℕ) (count : ℕ) → IsNameAlone rest count ⊎ HasNameBefore rest count
name_cases rest count = by (cases_lt (position_or_len is_slash rest) (length rest))
  where
    by : (position_or_len is_slash rest < length rest) ⊎ (length rest ≤ position_or_len is_slash rest) → IsNameAlone rest count ⊎ HasNameBefore rest count
    by (inl inside) =
        let slash : get_or rest (position_or_len is_slash rest) 0 ≡ 47 = eqb-true _ 47 (passes_at_first is_slash rest 0 inside) in
        inr (record {
          parts = split_at_first is_slash rest 0 inside ∙ ap (λ x. before_first is_slash rest ++ x ∷ after_first is_slash rest) slash;
          inside = inside;
          kind = rw (lt-ltb _ _ inside) refl;
        })
    by (inr past) = inl (record { name = take_all _ rest past; kind = rw (le-ltb _ _ past) refl })

-- ---- the name is one segment

onto_first-tail : (byte : ℕ) (parts : List (List ℕ)) → list_all is_name (drop 1 (onto_first byte parts)) ≡ true → list_all is_name (drop 1 parts) ≡ true
onto_first-tail byte [] all = refl
onto_first-tail byte (part ∷ parts) all = all

tail_all : (parts : List (List ℕ)) → list_all is_name parts ≡ true → list_all is_name (drop 1 parts) ≡ true
tail_all [] all = refl
tail_all (part ∷ parts) all = (and_parts (is_name part) (list_all is_name parts) all).1

names_at : (byte : ℕ) (parts : List (List ℕ)) (slash : Bool) → list_all is_name (drop 1 (cond slash ([] ∷ parts) (onto_first byte parts))) ≡ true → list_all is_name (drop 1 parts) ≡ true
names_at byte parts true all = tail_all parts all
names_at byte parts false all = onto_first-tail byte parts all

names_after : (folder rest : List ℕ) → list_all is_name (drop 1 (segments (folder ++ 47 ∷ rest))) ≡ true → list_all is_name (segments rest) ≡ true
names_after [] rest all = all
names_after (byte ∷ folder) rest all = names_after folder rest (names_at byte (segments (folder ++ 47 ∷ rest)) (is_slash byte) all)

names_within : (folder rest : List ℕ) → list_all is_name (segments (within folder ++ rest)) ≡ true → list_all is_name (segments rest) ≡ true
names_within [] rest all = all
names_within (byte ∷ bytes) rest all =
    let whole : list_all is_name (segments ((byte ∷ bytes) ++ 47 ∷ rest)) ≡ true = subst (λ p. list_all is_name (segments p) ≡ true) (slash_after (byte ∷ bytes) rest) all in
    names_after (byte ∷ bytes) rest (tail_all (segments ((byte ∷ bytes) ++ 47 ∷ rest)) whole)

segments_alone : (name : List ℕ) → list_any is_slash name ≡ false → segments name ≡ name ∷ []
segments_alone name none =
    slice_split_none is_slash name (All-from_get_or (λ x. is_slash x ≡ false) name 0 (λ k inside. fails_at name none k inside))

first_is_name : (rest : List ℕ) (count : ℕ) → list_all is_name (segments rest) ≡ true → IsNameAlone rest count ⊎ HasNameBefore rest count → is_name (before_first is_slash rest) ≡ true
first_is_name rest count all (inl alone) =
    let none : list_any is_slash rest ≡ false = ap (list_any is_slash) (sym alone.name) ∙ has_no_slash rest in
    let single : segments rest ≡ rest ∷ [] = segments_alone rest none in
    subst (λ n. is_name n ≡ true) (sym alone.name) (and_parts (is_name rest) true (subst (λ ps. list_all is_name ps ≡ true) single all)).0
first_is_name rest count all (inr before) =
    (and_parts (is_name (before_first is_slash rest)) (list_all is_name (segments (after_first is_slash rest)))
    (subst (λ ps. list_all is_name ps ≡ true) (slice_split_first is_slash rest 0 before.inside) all)).0

allowed_part : (front rest : List ℕ) → list_any is_forbidden (front ++ rest) ≡ false → (list_any is_forbidden front ≡ false) × (list_any is_forbidden rest ≡ false)
allowed_part front rest none = or_parts (list_any is_forbidden front) (list_any is_forbidden rest) (sym (list_any-append is_forbidden front rest) ∙ none)

pub name_is_segment : (folder rest : List ℕ) → is_normal (within folder ++ rest) ≡ true → IsSegment (before_first is_slash rest)
name_is_segment folder rest normal =
    let name = before_first is_slash rest in
    let parts = and_parts (list_all is_name (segments (within folder ++ rest))) (not (list_any is_forbidden (within folder ++ rest))) normal in
    let own : is_name name ≡ true = first_is_name rest 0 (names_within folder rest parts.0) (name_cases rest 0) in
    let allowed : list_any is_forbidden rest ≡ false = (allowed_part (within folder) rest (not-true _ parts.1)).1 in
    let whole : list_any is_forbidden (name ++ drop (position_or_len is_slash rest) rest) ≡ false = ap (list_any is_forbidden) (take-append-drop (position_or_len is_slash rest) rest) ∙ allowed in
    let single : segments name ≡ name ∷ [] = segments_alone name (has_no_slash rest) in
    and_from (is_normal name) (not (list_any is_slash name))
    (and_from (list_all is_name (segments name)) (not (list_any is_forbidden name))
    (subst (λ ps. list_all is_name ps ≡ true) (sym single) (and_from (is_name name) true own refl))
    (not_from_false _ (allowed_part name (drop (position_or_len is_slash rest) rest) whole).0))
    (not_from_false _ (has_no_slash rest))

-- ---- the path of an entry

pub child_within : (folder name : List ℕ) → child_of folder name ≡ within folder ++ name
child_within [] name = refl
child_within (byte ∷ bytes) name = sym (slash_after (byte ∷ bytes) name)

pub child_is_full : (folder name : List ℕ) → IsSegment name → (length (child_of folder name) == 0) ≡ false
child_is_full [] [] own = cc
child_is_full [] (byte ∷ bytes) own = ne_eqb _ 0 (λ e. omega arith)
child_is_full (byte ∷ bytes) name own = ne_eqb _ 0 (λ e. omega arith)

pub segment_has_no_slash : (name : List ℕ) → IsSegment name → list_any is_slash name ≡ false
segment_has_no_slash name own = not-true _ (and_parts (is_normal name) (not (list_any is_slash name)) own).1

-- what a file gives of a folder
pub record IsChild (folder : List ℕ) (file : List ℕ × List ℕ) (entry : DirEntry) : Type 0 where
  pub rest : List ℕ
  pub path : file.0 ≡ within folder ++ rest
  pub entry_is : entry_of_rest rest (length file.1) ≡ entry

child_at : (folder : List ℕ) (file : List ℕ × List ℕ) (entry : DirEntry) (begins : Bool) → starts_with nat_eq file.0 (within folder) ≡ begins → option_map (λ rest. entry_of_rest rest (length file.1)) (cond begins (Some (drop (length (within folder)) file.0)) None) ≡ Some entry → IsChild folder file entry
child_at folder file entry true begins e =
    record { rest = drop (length (within folder)) file.0; path = starts_to file.0 (within folder) begins; entry_is = cc }
child_at folder file entry false begins e = cc

pub child_parts : (folder : List ℕ) (file : List ℕ × List ℕ) (entry : DirEntry) → child_in folder file ≡ Some entry → IsChild folder file entry
child_parts folder file entry e = child_at folder file entry (starts_with nat_eq file.0 (within folder)) refl e

pub child_from : (folder : List ℕ) (file : List ℕ × List ℕ) (rest : List ℕ) → file.0 ≡ within folder ++ rest → child_in folder file ≡ Some (entry_of_rest rest (length file.1))
child_from folder file rest e = ap (option_map (λ r. entry_of_rest r (length file.1))) (rest_some folder file.0 rest e)
