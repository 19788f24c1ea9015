-- The map of first chunks, and the clashes that a loop over the members has found.
use Rattle.std.proofs.Common.{◌≡◌, ℕ, ◌+◌, ◌<◌, Bool, true, false, cond, bytes_eq, List, [], ◌∷◌, ◌++◌, length, get_or, take, find, Option, Some, None, option_map, refl, sym, ap, ◌∙◌, arith}
use Rattle.std.proofs.lemmas.List.{append-nil, take_all, take_more}
use Rattle.std.proofs.lemmas.List.Concat.{flat_map-append}
use Rattle.std.proofs.lemmas.List.Folds.{find-append}
use Rattle.std.proofs.lemmas.List.FromFn.{length-enumerate_from, get_or-enumerate_from}
use Rattle.std.specs.List.{flat_map, enumerate_from}
use Rattle.std.specs.Option.{option_or}
use Rattle.fault_place.specs.declared.fault.Fault.{Fault}
use Rattle.asset_names.specs.Clashes.{first_named, first_clash, stats_clash, clashes_at, clashes_of}

-- ---- the first member of a name among one member more

first_one : (member : ℕ × List ℕ) (name : List ℕ) (passes : Bool) (found : Option (ℕ × List ℕ)) → option_map (λ (m : ℕ × List ℕ). m.0) (option_or found (cond passes (Some member) None)) ≡ option_or (option_map (λ (m : ℕ × List ℕ). m.0) found) (cond passes (Some member.0) None)
first_one member name true None = refl
first_one member name false None = refl
first_one member name passes (Some found) = refl

pub first_named-more : (members : List (ℕ × List ℕ)) (i : ℕ) (d : ℕ × List ℕ) (name : List ℕ) → i < length members → first_named (take (i + 1) members) name ≡ option_or (first_named (take i members) name) (cond (bytes_eq name (get_or members i d).1) (Some (get_or members i d).0) None)
first_named-more members i d name within =
    let test : ℕ × List ℕ → Bool = λ m. bytes_eq name m.1 in
    ap (λ (xs : List (ℕ × List ℕ)). first_named xs name) (take_more members i d within)
    ∙ ap (option_map (λ (m : ℕ × List ℕ). m.0)) (find-append test (take i members) (get_or members i d ∷ []))
    ∙ first_one (get_or members i d) name (bytes_eq name (get_or members i d).1) (find test (take i members))

pub firsts-more : (members : List (ℕ × List ℕ)) (i id : ℕ) (d : ℕ × List ℕ) (name other : List ℕ) (at old : Option ℕ) → i < length members → id ≡ (get_or members i d).0 → name ≡ (get_or members i d).1 → old ≡ first_named (take i members) other → at ≡ option_or old (cond (bytes_eq other name) (Some id) None) → at ≡ first_named (take (i + 1) members) other
firsts-more members i id d name other at old within same_id same_name before now =
    now
    ∙ ap (λ (o : Option ℕ). option_or o (cond (bytes_eq other name) (Some id) None)) before
    ∙ ap (λ (n : ℕ). option_or (first_named (take i members) other) (cond (bytes_eq other name) (Some n) None)) same_id
    ∙ ap (λ (xs : List ℕ). option_or (first_named (take i members) other) (cond (bytes_eq other xs) (Some (get_or members i d).0) None)) same_name
    ∙ sym (first_named-more members i d other within)

-- ---- the clashes at one member more

-- what the loop has found before the i-th member
abbrev pub clashes_before : List ℕ → List (ℕ × List ℕ) → ℕ → List Fault
clashes_before path members i =
    flat_map (λ (placed : ℕ × (ℕ × List ℕ)). clashes_at path (take placed.0 members) placed.1) (take i (enumerate_from 0 members))

pub clashes_before-more : (path : List ℕ) (members : List (ℕ × List ℕ)) (i : ℕ) (d : ℕ × List ℕ) → i < length members → clashes_before path members (i + 1) ≡ clashes_before path members i ++ clashes_at path (take i members) (get_or members i d)
clashes_before-more path members i d within =
    let at : ℕ × (ℕ × List ℕ) → List Fault = λ placed. clashes_at path (take placed.0 members) placed.1 in
    let long : i < length (enumerate_from 0 members) = rw (length-enumerate_from 0 members) within in
    let placed : get_or (enumerate_from 0 members) i (0, d) ≡ (0 + i, get_or members i d) = get_or-enumerate_from 0 members i (0, d) within in
    let zero : 0 + i ≡ i = omega arith in
    let one : flat_map at (get_or (enumerate_from 0 members) i (0, d) ∷ []) ≡ clashes_at path (take i members) (get_or members i d) =
    append-nil (at (get_or (enumerate_from 0 members) i (0, d))) ∙ ap at placed ∙ ap (λ (n : ℕ). at (n, get_or members i d)) zero in
    ap (flat_map at) (take_more (enumerate_from 0 members) i (0, d) long)
    ∙ flat_map-append at (take i (enumerate_from 0 members)) (get_or (enumerate_from 0 members) i (0, d) ∷ [])
    ∙ ap (λ (xs : List Fault). clashes_before path members i ++ xs) one

pub found-more : (path : List ℕ) (members : List (ℕ × List ℕ)) (i id : ℕ) (d : ℕ × List ℕ) (name : List ℕ) (first : Option ℕ) (old new : List Fault) → i < length members → id ≡ (get_or members i d).0 → name ≡ (get_or members i d).1 → first ≡ first_named (take i members) name → old ≡ clashes_before path members i → new ≡ old ++ (first_clash path first id name ++ stats_clash path id name) → new ≡ clashes_before path members (i + 1)
found-more path members i id d name first old new within same_id same_name is_first before now =
    now
    ∙ ap (λ (xs : List Fault). xs ++ (first_clash path first id name ++ stats_clash path id name)) before
    ∙ ap (λ (o : Option ℕ). clashes_before path members i ++ (first_clash path o id name ++ stats_clash path id name)) is_first
    ∙ ap (λ (n : ℕ). clashes_before path members i ++ (first_clash path (first_named (take i members) name) n name ++ stats_clash path n name)) same_id
    ∙ ap (λ (xs : List ℕ). clashes_before path members i ++ clashes_at path (take i members) ((get_or members i d).0, xs)) same_name
    ∙ sym (clashes_before-more path members i d within)

pub clashes_before-all : (path : List ℕ) (members : List (ℕ × List ℕ)) (i : ℕ) → length members ≡ i → clashes_before path members i ≡ clashes_of path members
clashes_before-all path members i e =
    ap (flat_map (λ (placed : ℕ × (ℕ × List ℕ)). clashes_at path (take placed.0 members) placed.1))
    (take_all i (enumerate_from 0 members) (rw (length-enumerate_from 0 members) (omega arith)))

-- ---- the map after a name that leads nowhere is put

or_none : (found : Option ℕ) → found ≡ option_or found None
or_none None = refl
or_none (Some first) = refl

pub kept_by : (at old put : Option ℕ) (same : Bool) → (same ≡ true → old ≡ None) → at ≡ cond same put old → at ≡ option_or old (cond same put None)
kept_by at old put true absent e = e ∙ sym (ap (λ (o : Option ℕ). option_or o put) (absent refl))
kept_by at old put false absent e = e ∙ or_none old
