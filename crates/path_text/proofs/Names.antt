-- Which segments stand in a path: what a walk keeps of them, and that their path has them again.
use Rattle.std.proofs.Common.{◌≡◌, ℕ, Bool, true, false, not, cond, List, [], ◌∷◌, ◌++◌, length, take, zero, suc, Option, Some, None, Result, Ok, Err, option_map, option_and_then, ok_or, refl, ap, ◌∙◌, subst, inl, inr}
use Rattle.std.proofs.lemmas.Bool.{and_parts, and_from, or_parts, or_from, not-true, not_from_false}
use Rattle.std.proofs.lemmas.List.Folds.{list_any-append}
use Rattle.std.specs.List.{AllByRecursion, list_any, list_all, onto_first}
use Rattle.path_text.specs.declared.path_end.PathEnd.{PathEnd}
use Rattle.path_text.specs.declared.path_end.PathEnd.TheVariants.{Above, Absolute, BadChar}
use Rattle.path_text.specs.Path.{segments, path_of, folder_segments, step_from, walk_from, without_last, is_here, is_up, is_name, is_slash, is_forbidden, IsFolderPath, begins_with_slash, join_of}

-- no slash and no forbidden character
abbrev pub IsClean : List ℕ → Type 0
IsClean segment = (list_any is_slash segment ≡ false) × (list_any is_forbidden segment ≡ false)

-- a name besides
abbrev pub IsPlain : List ℕ → Type 0
IsPlain segment = (is_name segment ≡ true) × IsClean segment

-- ---- the segments of a text

onto_first-clean : (byte : ℕ) (parts : List (List ℕ)) → is_slash byte ≡ false → is_forbidden byte ≡ false → AllByRecursion IsClean parts → AllByRecursion IsClean (onto_first byte parts)
onto_first-clean byte [] slash forbidden all = ((or_from _ _ slash refl, or_from _ _ forbidden refl), tt)
onto_first-clean byte (part ∷ parts) slash forbidden all = ((or_from _ _ slash all.0.0, or_from _ _ forbidden all.0.1), all.1)

cut-clean : (byte : ℕ) (parts : List (List ℕ)) (slash : Bool) → is_slash byte ≡ slash → is_forbidden byte ≡ false → AllByRecursion IsClean parts → AllByRecursion IsClean (cond slash ([] ∷ parts) (onto_first byte parts))
cut-clean byte parts true slash forbidden all = ((refl, refl), all)
cut-clean byte parts false slash forbidden all = onto_first-clean byte parts slash forbidden all

pub segments-clean : (text : List ℕ) → list_any is_forbidden text ≡ false → AllByRecursion IsClean (segments text)
segments-clean [] none = ((refl, refl), tt)
segments-clean (byte ∷ bytes) none =
    let parts = or_parts (is_forbidden byte) (list_any is_forbidden bytes) none in
    cut-clean byte (segments bytes) (is_slash byte) refl parts.0 (segments-clean bytes parts.1)

both : (parts : List (List ℕ)) → list_all is_name parts ≡ true → AllByRecursion IsClean parts → AllByRecursion IsPlain parts
both [] names clean = tt
both (part ∷ parts) names clean =
    let split = and_parts (is_name part) (list_all is_name parts) names in
    ((split.0, clean.0), both parts split.1 clean.1)

pub folder_segments-plain : (folder : List ℕ) → IsFolderPath folder → AllByRecursion IsPlain (folder_segments folder)
folder_segments-plain [] h = tt
folder_segments-plain (byte ∷ bytes) (inl e) = cc
folder_segments-plain (byte ∷ bytes) (inr normal) =
    let parts = and_parts (list_all is_name (segments (byte ∷ bytes))) (not (list_any is_forbidden (byte ∷ bytes))) normal in
    both (segments (byte ∷ bytes)) parts.0 (segments-clean (byte ∷ bytes) (not-true (list_any is_forbidden (byte ∷ bytes)) parts.1))

-- ---- a walk

take-plain : (n : ℕ) (parts : List (List ℕ)) → AllByRecursion IsPlain parts → AllByRecursion IsPlain (take n parts)
take-plain zero parts all = tt
take-plain (suc n) [] all = tt
take-plain (suc n) (part ∷ parts) all = (all.0, take-plain n parts all.1)

push-plain : (parts : List (List ℕ)) (part : List ℕ) → AllByRecursion IsPlain parts → IsPlain part → AllByRecursion IsPlain (parts ++ part ∷ [])
push-plain [] part all plain = (plain, tt)
push-plain (first ∷ rest) part all plain = (all.0, push-plain rest part all.1 plain)

without_last-plain : (kept next : List (List ℕ)) → AllByRecursion IsPlain kept → without_last kept ≡ Some next → AllByRecursion IsPlain next
without_last-plain [] next all e = cc
without_last-plain (first ∷ rest) next all e =
    let same : take (length rest) (first ∷ rest) ≡ next = cc in
    subst (AllByRecursion IsPlain) same (take-plain (length rest) (first ∷ rest) all)

step-plain : (kept next : List (List ℕ)) (segment : List ℕ) (here up : Bool) → is_here segment ≡ here → is_up segment ≡ up → AllByRecursion IsPlain kept → IsClean segment → cond here (Some kept) (cond up (without_last kept) (Some (kept ++ segment ∷ []))) ≡ Some next → AllByRecursion IsPlain next
step-plain kept next segment true up here-is up-is all clean e =
    let same : kept ≡ next = cc in subst (AllByRecursion IsPlain) same all
step-plain kept next segment false true here-is up-is all clean e = without_last-plain kept next all e
step-plain kept next segment false false here-is up-is all clean e =
    let same : kept ++ segment ∷ [] ≡ next = cc in
    subst (AllByRecursion IsPlain) same (push-plain kept segment all (not_from_false _ (or_from _ _ here-is up-is), clean))

after_step : (step : Option (List (List ℕ))) (parts names : List (List ℕ)) → ((next : List (List ℕ)) → step ≡ Some next → walk_from next parts ≡ Some names → AllByRecursion IsPlain names) → option_and_then (λ next. walk_from next parts) step ≡ Some names → AllByRecursion IsPlain names
after_step None parts names further e = cc
after_step (Some next) parts names further e = further next refl e

-- a walk along clean segments keeps the segments plain
walk-plain : (kept parts names : List (List ℕ)) → AllByRecursion IsPlain kept → AllByRecursion IsClean parts → walk_from kept parts ≡ Some names → AllByRecursion IsPlain names
walk-plain kept [] names all clean e =
    let same : kept ≡ names = cc in subst (AllByRecursion IsPlain) same all
walk-plain kept (part ∷ parts) names all clean e =
    after_step (step_from kept part) parts names
    (λ next step walk. walk-plain next parts names (step-plain kept next part (is_here part) (is_up part) refl refl all clean.0 step) clean.1 walk) e

-- ---- the path of segments

pub split_none : (name : List ℕ) → list_any is_slash name ≡ false → segments name ≡ name ∷ []
split_none [] none = refl
split_none (byte ∷ bytes) none =
    let parts = or_parts (is_slash byte) (list_any is_slash bytes) none in
    rw (parts.0, split_none bytes parts.1)

pub split_first : (name rest : List ℕ) → list_any is_slash name ≡ false → segments (name ++ 47 ∷ rest) ≡ name ∷ segments rest
split_first [] rest none = refl
split_first (byte ∷ bytes) rest none =
    let parts = or_parts (is_slash byte) (list_any is_slash bytes) none in
    rw (parts.0, split_first bytes rest parts.1)

pub segments-path_of : (first : List ℕ) (rest : List (List ℕ)) → AllByRecursion IsPlain (first ∷ rest) → segments (path_of (first ∷ rest)) ≡ first ∷ rest
segments-path_of first [] all = split_none first all.0.1.0
segments-path_of first (next ∷ rest) all =
    split_first first (path_of (next ∷ rest)) all.0.1.0 ∙ ap (λ xs. first ∷ xs) (segments-path_of next rest all.1)

forbidden-path_of : (first : List ℕ) (rest : List (List ℕ)) → AllByRecursion IsPlain (first ∷ rest) → list_any is_forbidden (path_of (first ∷ rest)) ≡ false
forbidden-path_of first [] all = all.0.1.1
forbidden-path_of first (next ∷ rest) all =
    list_any-append is_forbidden first (47 ∷ path_of (next ∷ rest)) ∙ or_from _ _ all.0.1.1 (forbidden-path_of next rest all.1)

names-plain : (parts : List (List ℕ)) → AllByRecursion IsPlain parts → list_all is_name parts ≡ true
names-plain [] all = refl
names-plain (part ∷ parts) all = and_from _ _ all.0.0 (names-plain parts all.1)

pub path_of-folder : (names : List (List ℕ)) → AllByRecursion IsPlain names → IsFolderPath (path_of names)
path_of-folder [] all = inl refl
path_of-folder (first ∷ rest) all =
    inr (and_from _ _ (ap (list_all is_name) (segments-path_of first rest all) ∙ names-plain (first ∷ rest) all) (not_from_false _ (forbidden-path_of first rest all)))

joined-folder : (folder rest path : List ℕ) (forbidden absolute : Bool) (walk : Option (List (List ℕ))) → list_any is_forbidden rest ≡ forbidden → walk_from (folder_segments folder) (segments rest) ≡ walk → IsFolderPath folder → (let defined : Result (List ℕ) PathEnd = cond forbidden (Err BadChar) (cond absolute (Err Absolute) (ok_or (option_map path_of walk) Above)) in defined) ≡ Ok path → IsFolderPath path
joined-folder folder rest path true absolute walk clean walked normal e = cc
joined-folder folder rest path false true walk clean walked normal e = cc
joined-folder folder rest path false false None clean walked normal e = cc
joined-folder folder rest path false false (Some names) clean walked normal e =
    let same : path_of names ≡ path = cc in
    subst IsFolderPath same (path_of-folder names (walk-plain (folder_segments folder) (segments rest) names (folder_segments-plain folder normal) (segments-clean rest clean) walked))

-- what a rest names from a normal path or the root is a normal path or the root
pub join_of-folder : (folder rest path : List ℕ) → IsFolderPath folder → join_of folder rest ≡ Ok path → IsFolderPath path
join_of-folder folder rest path normal e =
    joined-folder folder rest path (list_any is_forbidden rest) (begins_with_slash rest) (walk_from (folder_segments folder) (segments rest)) refl refl normal e
