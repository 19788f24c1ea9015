-- The pieces of a text between one `[` and the next, and a piece cut at its first `]`.
use Rattle.std.proofs.Common.{◌≡◌, ℕ, ◌+◌, Bool, true, false, cond, ltb, List, [], ◌∷◌, ◌++◌, length, get_or, drop, Option, Some, None, option_and_then, refl, sym, ap, ◌∙◌, arith}
use Rattle.std.proofs.lemmas.Bool.{or_parts, or_from, eqb-true, ltb-true, lt-ltb}
use Rattle.std.proofs.lemmas.Grind.{common_steps}
use Rattle.std.proofs.lemmas.List.{append-nil, append_assoc, take_at, drop_at}
use Rattle.std.proofs.lemmas.List.Sums.{split_at_first, passes_at_first}
use Rattle.std.proofs.lemmas.List.Splits.{join_with_byte-slice_split}
use Rattle.std.specs.List.{AllByRecursion, slice_split, onto_first, list_any, flat_map, join_with_byte, position_or_len, before_first, after_first}
use Rattle.graph_types.specs.declared.part.Part.{Part}
use Rattle.asset_names.specs.Reading.{is_open, is_close, mark_of, with_fixed, with_marked}

-- ---- the pieces of a text

-- what has no `[` stands at the front of the first piece
pub split_front : (front text first : List ℕ) (rest : List (List ℕ)) → list_any is_open front ≡ false → slice_split is_open text ≡ first ∷ rest → slice_split is_open (front ++ text) ≡ (front ++ first) ∷ rest
split_front [] text first rest none e = e
split_front (byte ∷ bytes) text first rest none e =
    let parts = or_parts (is_open byte) (list_any is_open bytes) none in
    rw (parts.0, split_front bytes text first rest parts.1 e)

-- a text has a first piece
pub has_first : (text : List ℕ) → (first : List ℕ) × (rest : List (List ℕ)) × (slice_split is_open text ≡ first ∷ rest)
has_first [] = ([], [], refl)
has_first (byte ∷ bytes) = by_byte (is_open byte) (slice_split is_open bytes)
  where
    by_byte : (opens : Bool) (parts : List (List ℕ)) → (first : List ℕ) × (rest : List (List ℕ)) × (cond opens ([] ∷ parts) (onto_first byte parts) ≡ first ∷ rest)
    by_byte true parts = ([], parts, refl)
    by_byte false [] = (byte ∷ [], [], refl)
    by_byte false (part ∷ parts) = (byte ∷ part, parts, refl)

-- no `[`
abbrev pub IsClear : List ℕ → Type 0
IsClear piece = list_any is_open piece ≡ false

cut-clear : (byte : ℕ) (parts : List (List ℕ)) (opens : Bool) → is_open byte ≡ opens → AllByRecursion IsClear parts → AllByRecursion IsClear (cond opens ([] ∷ parts) (onto_first byte parts))
cut-clear byte parts true e all = (refl, all)
cut-clear byte [] false e all = (or_from _ _ e refl, tt)
cut-clear byte (part ∷ parts) false e all = (or_from _ _ e all.0, all.1)

pub pieces-clear : (text : List ℕ) → AllByRecursion IsClear (slice_split is_open text)
pieces-clear [] = (refl, tt)
pieces-clear (byte ∷ bytes) = cut-clear byte (slice_split is_open bytes) (is_open byte) refl (pieces-clear bytes)

-- the pieces behind the first, each behind its `[`
abbrev pub behind : List (List ℕ) → List ℕ
behind pieces = flat_map (λ piece. 91 ∷ piece) pieces

joined : (first : List ℕ) (rest : List (List ℕ)) → join_with_byte 91 (first ∷ rest) ≡ first ++ behind rest
joined first [] = sym (append-nil first)
joined first (next ∷ rest) = ap (λ xs. first ++ 91 ∷ xs) (joined next rest)

pub pieces-text : (text first : List ℕ) (rest : List (List ℕ)) → slice_split is_open text ≡ first ∷ rest → text ≡ first ++ behind rest
pieces-text text first rest e =
    sym (join_with_byte-slice_split 91 text) ∙ ap (join_with_byte 91) e ∙ joined first rest

-- ---- a piece cut at its first `]`

close_at : (word fixed : List ℕ) → list_any is_close word ≡ false → position_or_len is_close (word ++ 93 ∷ fixed) ≡ length word
close_at [] fixed none = refl
close_at (byte ∷ bytes) fixed none =
    let parts = or_parts (is_close byte) (list_any is_close bytes) none in
    let rest = close_at bytes fixed parts.1 in
    rw parts.0 (omega (arith, rest))

pub with_marked-at : (digits : ℕ) (parts : List Part) (word fixed : List ℕ) → list_any is_close word ≡ false → with_marked digits parts (word ++ 93 ∷ fixed) ≡ option_and_then (λ part. with_fixed (parts ++ part ∷ []) fixed) (mark_of digits word)
with_marked-at digits parts word fixed none =
    let at = close_at word fixed none in
    let inside : ltb (position_or_len is_close (word ++ 93 ∷ fixed)) (length (word ++ 93 ∷ fixed)) ≡ true = lt-ltb _ _ (grind (arith, common_steps)) in
    let before : before_first is_close (word ++ 93 ∷ fixed) ≡ word = take_at word (93 ∷ fixed) _ (sym at) in
    let all : (word ++ 93 ∷ []) ++ fixed ≡ word ++ 93 ∷ fixed = append_assoc word (93 ∷ []) fixed in
    let end : length (word ++ 93 ∷ []) ≡ position_or_len is_close (word ++ 93 ∷ fixed) + 1 = grind (arith, common_steps) in
    let after : after_first is_close (word ++ 93 ∷ fixed) ≡ fixed = ap (drop (position_or_len is_close (word ++ 93 ∷ fixed) + 1)) (sym all) ∙ drop_at (word ++ 93 ∷ []) fixed _ end in
    rw (inside, before, after)

-- what a piece that was read is made of
pub record IsCut (digits : ℕ) (parts : List Part) (marked : List ℕ) (next : List Part) : Type 0 where
  pub word : List ℕ
  pub part : Part
  pub fixed : List ℕ
  pub cut : marked ≡ word ++ 93 ∷ fixed
  pub mark : mark_of digits word ≡ Some part
  pub rest : with_fixed (parts ++ part ∷ []) fixed ≡ Some next

by_mark : (digits : ℕ) (parts next : List Part) (marked word fixed : List ℕ) (part : Option Part) → marked ≡ word ++ 93 ∷ fixed → mark_of digits word ≡ part → option_and_then (λ (p : Part). with_fixed (parts ++ p ∷ []) fixed) part ≡ Some next → IsCut digits parts marked next
by_mark digits parts next marked word fixed None cut mark e = cc
by_mark digits parts next marked word fixed (Some part) cut mark e =
    record { word = word; part = part; fixed = fixed; cut = cut; mark = mark; rest = e }

by_place : (digits : ℕ) (parts next : List Part) (marked : List ℕ) (inside : Bool) → ltb (position_or_len is_close marked) (length marked) ≡ inside → cond inside (option_and_then (λ (p : Part). with_fixed (parts ++ p ∷ []) (after_first is_close marked)) (mark_of digits (before_first is_close marked))) None ≡ Some next → IsCut digits parts marked next
by_place digits parts next marked true t e =
    let within = ltb-true _ _ t in
    let closes = eqb-true (get_or marked (position_or_len is_close marked) 0) 93 (passes_at_first is_close marked 0 within) in
    let cut : marked ≡ before_first is_close marked ++ 93 ∷ after_first is_close marked =
    split_at_first is_close marked 0 within ∙ ap (λ (x : ℕ). before_first is_close marked ++ x ∷ after_first is_close marked) closes in
    by_mark digits parts next marked (before_first is_close marked) (after_first is_close marked) (mark_of digits (before_first is_close marked)) cut refl e
by_place digits parts next marked false t e = cc

pub with_marked-some : (digits : ℕ) (parts next : List Part) (marked : List ℕ) → with_marked digits parts marked ≡ Some next → IsCut digits parts marked next
with_marked-some digits parts next marked e =
    by_place digits parts next marked (ltb (position_or_len is_close marked) (length marked)) refl e
