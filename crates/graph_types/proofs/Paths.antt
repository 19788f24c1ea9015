-- Parts of a path, and its folders.
use Rattle.std.proofs.Common.{◌≡◌, ◌↔◌, ℕ, Bool, true, false, cond, ◌||◌, ◌+◌, ◌-◌, ◌<◌, ◌≤◌, nat_eq, suc, List, [], ◌∷◌, ◌++◌, length, take, drop, get_or, refl, sym, ap, ◌∙◌, inl, inr, arith, length-append}
use Rattle.std.specs.List.{starts_with, list_any, slice_split, slice_range, onto_first}
use Rattle.std.specs.Str.{bytes_eq}
use Rattle.std.specs.Str.Iter.{HasSubslice}
use Rattle.std.proofs.lemmas.Bool.{or_cases}
use Rattle.std.proofs.lemmas.Bool.Decides.{Decides-eqb, nat_tests}
use Rattle.std.proofs.lemmas.List.{length-drop, get_or-drop}
use Rattle.std.proofs.lemmas.List.Splits.{length-slice_split, slice_split-cons_no}
use Rattle.std.proofs.lemmas.Slice.Eq.{starts_is}
use Rattle.std.proofs.Math.Seq.{split_at, take-append_seam}
use Rattle.graph_types.specs.Condition.{has_part, has_folder, is_separator, folders_of}

-- ---- a part

module _ (part : List ℕ) where
  begins : (path rest : List ℕ) → path ≡ part ++ rest → starts_with nat_eq path part ≡ true
  begins path rest e = (starts_is Decides-eqb path part (starts_with nat_eq path part) refl).1 rest e

  begun : (path : List ℕ) → starts_with nat_eq path part ≡ true → path ≡ part ++ drop (length part) path
  begun path e = (starts_is Decides-eqb path part (starts_with nat_eq path part) refl).0 e

  later : (byte : ℕ) (bytes : List ℕ) → HasSubslice bytes part → HasSubslice (byte ∷ bytes) part
  later byte bytes there = (byte ∷ there.0, there.1, ap (λ xs. byte ∷ xs) there.2)

  pub part-stands : (path : List ℕ) → has_part part path ≡ true → HasSubslice path part
  part-stands [] e = ([], drop (length part) [], begun [] e)
  part-stands (byte ∷ bytes) e =
      elim (or_cases (starts_with nat_eq (byte ∷ bytes) part) (has_part part bytes) e)
      [ inl here ↦ ([], drop (length part) (byte ∷ bytes), begun (byte ∷ bytes) here) | inr there ↦ later byte bytes (part-stands bytes there) ]

  at_front : (path : List ℕ) → starts_with nat_eq path part ≡ true → has_part part path ≡ true
  at_front [] e = e
  at_front (byte ∷ bytes) e = ap (λ b. b || has_part part bytes) e

  behind : (b c : Bool) → c ≡ true → (b || c) ≡ true
  behind true c e = refl
  behind false c e = e

  part-found : (path before rest : List ℕ) → path ≡ before ++ (part ++ rest) → has_part part path ≡ true
  part-found path [] rest e = at_front path (begins path rest e)
  part-found [] (b ∷ before) rest e = cc
  part-found (byte ∷ bytes) (b ∷ before) rest e =
      let tail : bytes ≡ before ++ (part ++ rest) = cc in
      behind (starts_with nat_eq (byte ∷ bytes) part) (has_part part bytes) (part-found bytes before rest tail)

same_by : (r s : Bool) → (r ≡ true → s ≡ true) → (s ≡ true → r ≡ true) → r ≡ s
same_by true s to from = sym (to refl)
same_by false true to from = from refl
same_by false false to from = refl

pub part_is : (r : Bool) (part path : List ℕ) → (r ≡ true) ↔ HasSubslice path part → r ≡ has_part part path
part_is r part path both =
    same_by r (has_part part path) (λ e. part-found part path (both.0 e).0 (both.0 e).1 (both.0 e).2) (λ e. both.1 (part-stands part path e))

-- ---- the folders

other : (x : ℕ) → (x ≡ 47 → ⊥) → is_separator x ≡ false
other x h = grind (arith, nat_tests)

one_segment : (path : List ℕ) → ((i : ℕ) → i < length path → get_or path i 0 ≡ 47 → ⊥) → slice_split is_separator path ≡ path ∷ []
one_segment [] none = refl
one_segment (byte ∷ bytes) none =
    slice_split-cons_no is_separator byte bytes (other byte (none 0 (omega arith)))
    ∙ ap (onto_first byte) (one_segment bytes (λ i within at. none (suc i) (omega arith) at))

pub no_folder : (name path : List ℕ) → ((i : ℕ) → i < length path → get_or path i 0 ≡ 47 → ⊥) → false ≡ has_folder name path
no_folder name path none =
    let e = one_segment path none in
    let f : folders_of path ≡ [] = ap (λ segments. take (length segments - 1) segments) e in
    sym (ap (list_any (λ folder. bytes_eq folder name)) f)

onto : (byte : ℕ) (segments : List (List ℕ)) (last : List ℕ) → 1 ≤ length segments →
    onto_first byte (segments ++ last ∷ []) ≡ onto_first byte segments ++ last ∷ []
onto byte [] last some = absurd (omega arith)
onto byte (segment ∷ segments) last some = refl

split_step : (b : Bool) (byte : ℕ) (bytes last : List ℕ) (whole : List (List ℕ)) → whole ≡ slice_split is_separator bytes ++ last ∷ [] →
    cond b ([] ∷ whole) (onto_first byte whole) ≡ cond b ([] ∷ slice_split is_separator bytes) (onto_first byte (slice_split is_separator bytes)) ++ last ∷ []
split_step true byte bytes last whole e = ap (λ segments. [] ∷ segments) e
split_step false byte bytes last whole e =
    ap (onto_first byte) e ∙ onto byte (slice_split is_separator bytes) last (omega (arith, length-slice_split is_separator bytes))

split_last : (front last : List ℕ) → ((i : ℕ) → i < length last → get_or last i 0 ≡ 47 → ⊥) →
    slice_split is_separator (front ++ 47 ∷ last) ≡ slice_split is_separator front ++ last ∷ []
split_last [] last none = ap (λ segments. [] ∷ segments) (one_segment last none)
split_last (byte ∷ bytes) last none =
    split_step (is_separator byte) byte bytes last (slice_split is_separator (bytes ++ 47 ∷ last)) (split_last bytes last none)

but_last : (segments : List (List ℕ)) (last : List ℕ) → take (length (segments ++ last ∷ []) - 1) (segments ++ last ∷ []) ≡ segments
but_last segments last =
    let e : length (segments ++ last ∷ []) - 1 ≡ length segments = omega (arith, length-append segments (last ∷ [])) in
    ap (λ n. take n (segments ++ last ∷ [])) e ∙ take-append_seam segments (last ∷ [])

pub folders_before : (path : List ℕ) (end : ℕ) → end < length path → get_or path end 0 ≡ 47 → ((i : ℕ) → end < i → i < length path → get_or path i 0 ≡ 47 → ⊥) →
    slice_split is_separator (slice_range path 0 end) ≡ folders_of path
folders_before path end within at behind =
    let start : end - 0 ≡ end = omega arith in
    let cut : path ≡ take end path ++ 47 ∷ drop (suc end) path = split_at path end 0 within ∙ ap (λ byte. take end path ++ byte ∷ drop (suc end) path) at in
    let none : (i : ℕ) → i < length (drop (suc end) path) → get_or (drop (suc end) path) i 0 ≡ 47 → ⊥ =
    λ i less is. behind (suc end + i) (omega arith) (omega (arith, length-drop (suc end) path)) (sym (get_or-drop (suc end) path i 0) ∙ is) in
    let whole = ap (slice_split is_separator) cut ∙ split_last (take end path) (drop (suc end) path) none in
    ap (λ n. slice_split is_separator (take n path)) start
    ∙ sym (ap (λ segments. take (length segments - 1) segments) whole ∙ but_last (slice_split is_separator (take end path)) (drop (suc end) path))
