-- Lemmas on walks along segments, as a loop over them meets them.
use Rattle.std.proofs.Common.{◌≡◌, ◌==◌, ℕ, ◌+◌, ◌<◌, ◌≤◌, false, bytes_eq, List, [], ◌∷◌, ◌++◌, map, length, get_or, drop, Option, Some, None, Ok, Err, ok_or, option_and_then, refl, sym, ap, ◌∙◌, arith, Bor}
use Rattle.std.proofs.lemmas.List.{at_drop_more, at_drop_all, append-nil, map_push}
use Rattle.std.proofs.lemmas.Bool.{false_from_ne_true, or_from}
use Rattle.std.proofs.lemmas.Slice.Eq.{bytes_eq-Decides}
use Rattle.std.specs.List.{join_by, flat_map, list_any}
use Rattle.path_text.specs.declared.path_end.PathEnd.{PathEnd}
use Rattle.path_text.specs.declared.path_end.PathEnd.TheVariants.{Above}
use Rattle.path_text.specs.Path.{texts, is_here, is_up, segments, path_of, folder_segments, step_from, walk_from, is_forbidden, begins_with_slash, join_of}

differs : (xs ys : List ℕ) → (xs ≡ ys → ⊥) → bytes_eq xs ys ≡ false
differs xs ys other = false_from_ne_true _ (λ e. other ((bytes_eq-Decides xs ys).0 e))

-- a step along a name pushes it
pub step_pushes : (kept new : List (Bor (List ℕ))) (name : Bor (List ℕ)) → new ≡ kept ++ name ∷ [] → (name.now ≡ [] → ⊥) → (name.now ≡ 46 ∷ [] → ⊥) → (name.now ≡ 46 ∷ 46 ∷ [] → ⊥) → ok_or (step_from (texts kept) name.now) Above ≡ Ok (texts new)
step_pushes kept new name pushed not_empty not_dot not_dots =
    let here : is_here name.now ≡ false = or_from _ _ (differs name.now [] not_empty) (differs name.now (46 ∷ []) not_dot) in
    let up : is_up name.now ≡ false = differs name.now (46 ∷ 46 ∷ []) not_dots in
    let names : texts new ≡ texts kept ++ name.now ∷ [] = ap (map (λ (x : Bor (List ℕ)). x.now)) pushed ∙ map_push (λ x. x.now) kept name in
    rw (here, up, names)

pub some_from_ok : (found : Option (List (List ℕ))) (names : List (List ℕ)) → ok_or found Above ≡ Ok names → found ≡ Some names
some_from_ok None names e = cc
some_from_ok (Some other) names e = ap (λ xs. Some xs) (let same : other ≡ names = cc in same)

-- the walk along what is left begins with the step along the next segment
walk_more : (kept parts : List (List ℕ)) (n : ℕ) (segment : List ℕ) → n < length parts → segment ≡ get_or parts n segment → walk_from kept (drop n parts) ≡ option_and_then (λ next. walk_from next (drop (n + 1) parts)) (step_from kept segment)
walk_more kept parts n segment within is =
    at_drop_more (walk_from kept) parts n segment within ∙ ap (λ x. walk_from kept (x ∷ drop (n + 1) parts)) (sym is)

pub walk_goes : (kept next parts : List (List ℕ)) (n : ℕ) (segment : List ℕ) → n < length parts → segment ≡ get_or parts n segment → step_from kept segment ≡ Some next → walk_from kept (drop n parts) ≡ walk_from next (drop (n + 1) parts)
walk_goes kept next parts n segment within is step =
    walk_more kept parts n segment within is ∙ ap (option_and_then (λ to. walk_from to (drop (n + 1) parts))) step

pub walk_stops : (kept parts : List (List ℕ)) (n : ℕ) (segment : List ℕ) (end : PathEnd) → n < length parts → segment ≡ get_or parts n segment → ok_or (step_from kept segment) Above ≡ Err end → ok_or (walk_from kept (drop n parts)) Above ≡ Err end
walk_stops kept parts n segment end within is stop =
    ap (λ walk. ok_or walk Above) (walk_more kept parts n segment within is) ∙ stops_along (step_from kept segment) stop
  where
    stops_along : (step : Option (List (List ℕ))) → ok_or step Above ≡ Err end → ok_or (option_and_then (λ next. walk_from next (drop (n + 1) parts)) step) Above ≡ Err end
    stops_along None e = e
    stops_along (Some next) e = cc

pub walk_ends : (kept parts : List (List ℕ)) (n : ℕ) → length parts ≤ n → walk_from kept (drop n parts) ≡ Some kept
walk_ends kept parts n past = at_drop_all (walk_from kept) parts n past

-- a folder that isn't the root has the segments of its text
pub folder_segments_full : (folder : List ℕ) → (length folder == 0) ≡ false → folder_segments folder ≡ segments folder
folder_segments_full [] e = absurd (grind arith)
folder_segments_full (byte ∷ bytes) e = refl

-- the texts after the first, each behind a slash
joined_rest : (first : List ℕ) (rest : List (Bor (List ℕ))) → first ++ flat_map (λ y. (47 ∷ []) ++ y.now) rest ≡ path_of (first ∷ texts rest)
joined_rest first [] = append-nil first
joined_rest first (next ∷ rest) = ap (λ xs. first ++ (47 ∷ xs)) (joined_rest next.now rest)

-- `join` with a slash gives the path of the segments
pub join_by-path_of : (kept : List (Bor (List ℕ))) → join_by (λ x. x.now) (47 ∷ []) kept ≡ path_of (texts kept)
join_by-path_of [] = refl
join_by-path_of (first ∷ rest) = joined_rest first.now rest

pub join_of_walk : (folder rest : List ℕ) (names : List (List ℕ)) → list_any is_forbidden rest ≡ false → begins_with_slash rest ≡ false → walk_from (folder_segments folder) (segments rest) ≡ Some names → join_of folder rest ≡ Ok (path_of names)
join_of_walk folder rest names clean relative walk =
    rw (clean, relative, walk)
