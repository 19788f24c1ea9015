-- Reading pieces in turn, as a loop over them meets them, and the pieces of a text cut once.
use Rattle.std.proofs.Common.{◌≡◌, ℕ, ◌+◌, ◌<◌, ◌≤◌, Bool, true, false, not, cond, List, [], ◌∷◌, length, get_or, drop, Option, Some, None, option_and_then, refl, sym, ap, ◌∙◌, arith}
use Rattle.std.proofs.lemmas.Bool.{or_from}
use Rattle.std.proofs.lemmas.List.{append-nil, at_drop_more, at_drop_all}
use Rattle.std.proofs.lemmas.List.Splits.{slice_split_first}
use Rattle.std.specs.List.{slice_split, list_any, position_or_len, before_first, after_first}
use Rattle.graph_types.specs.declared.part.Part.{Part}
use Rattle.asset_names.specs.Reading.{is_open, with_fixed, with_marked, with_all, read_pieces}
use Rattle.asset_names.proofs.Pieces.{split_front}

-- what is left begins with the next piece
all_more : (digits : ℕ) (parts : List Part) (pieces : List (List ℕ)) (n : ℕ) (piece : List ℕ) → n < length pieces → piece ≡ get_or pieces n piece → with_all digits parts (drop n pieces) ≡ option_and_then (λ (next : List Part). with_all digits next (drop (n + 1) pieces)) (with_marked digits parts piece)
all_more digits parts pieces n piece within is =
    at_drop_more (with_all digits parts) pieces n piece within ∙ ap (λ (x : List ℕ). with_all digits parts (x ∷ drop (n + 1) pieces)) (sym is)

pub all_goes : (digits : ℕ) (parts next : List Part) (pieces : List (List ℕ)) (n : ℕ) (piece : List ℕ) → n < length pieces → piece ≡ get_or pieces n piece → with_marked digits parts piece ≡ Some next → with_all digits parts (drop n pieces) ≡ with_all digits next (drop (n + 1) pieces)
all_goes digits parts next pieces n piece within is step =
    all_more digits parts pieces n piece within is ∙ ap (option_and_then (λ (to : List Part). with_all digits to (drop (n + 1) pieces))) step

pub all_stops : (digits : ℕ) (parts : List Part) (pieces : List (List ℕ)) (n : ℕ) (piece : List ℕ) → n < length pieces → piece ≡ get_or pieces n piece → with_marked digits parts piece ≡ None → with_all digits parts (drop n pieces) ≡ None
all_stops digits parts pieces n piece within is step =
    all_more digits parts pieces n piece within is ∙ ap (option_and_then (λ (to : List Part). with_all digits to (drop (n + 1) pieces))) step

pub all_ends : (digits : ℕ) (parts : List Part) (pieces : List (List ℕ)) (n : ℕ) → length pieces ≤ n → with_all digits parts (drop n pieces) ≡ Some parts
all_ends digits parts pieces n past = at_drop_all (with_all digits parts) pieces n past

-- ---- a text cut at its first `[`

never_at : (byte : ℕ) (bytes : List ℕ) (opens : Bool) → is_open byte ≡ opens → (position_or_len is_open bytes ≡ length bytes → list_any is_open bytes ≡ false) → cond (not opens) (1 + position_or_len is_open bytes) 0 ≡ length (byte ∷ bytes) → list_any is_open (byte ∷ bytes) ≡ false
never_at byte bytes true t more e = absurd (omega arith)
never_at byte bytes false t more e = or_from _ _ t (more (omega arith))

never : (text : List ℕ) → position_or_len is_open text ≡ length text → list_any is_open text ≡ false
never [] e = refl
never (byte ∷ bytes) e = never_at byte bytes (is_open byte) refl (never bytes) e

-- a text without `[` is one fixed text
pub read-uncut : (digits : ℕ) (text : List ℕ) → position_or_len is_open text ≡ length text → read_pieces digits (slice_split is_open text) ≡ with_fixed [] text
read-uncut digits text e =
    let whole = append-nil text in
    let pieces : slice_split is_open text ≡ text ∷ [] =
    ap (slice_split is_open) (sym whole) ∙ split_front text [] [] [] (never text e) refl ∙ ap (λ (xs : List ℕ). xs ∷ []) whole in
    ap (read_pieces digits) pieces ∙ by_option (with_fixed [] text)
  where
    by_option : (parts : Option (List Part)) → option_and_then (λ (next : List Part). with_all digits next []) parts ≡ parts
    by_option None = refl
    by_option (Some parts) = refl

pub read-cut : (digits : ℕ) (text : List ℕ) → position_or_len is_open text < length text → read_pieces digits (slice_split is_open text) ≡ option_and_then (λ (next : List Part). with_all digits next (slice_split is_open (after_first is_open text))) (with_fixed [] (before_first is_open text))
read-cut digits text within = ap (read_pieces digits) (slice_split_first is_open text 0 within)

-- the same for the parts and the texts that the reader has then
pub starts-uncut : (digits : ℕ) (text : List ℕ) (parts : List Part) → parts ≡ [] → position_or_len is_open text ≡ length text → read_pieces digits (slice_split is_open text) ≡ with_fixed parts text
starts-uncut digits text parts none e = read-uncut digits text e ∙ ap (λ (xs : List Part). with_fixed xs text) (sym none)

pub starts-cut : (digits : ℕ) (text fixed marked : List ℕ) (parts : List Part) → parts ≡ [] → position_or_len is_open text < length text → fixed ≡ before_first is_open text → marked ≡ after_first is_open text → read_pieces digits (slice_split is_open text) ≡ option_and_then (λ (next : List Part). with_all digits next (slice_split is_open marked)) (with_fixed parts fixed)
starts-cut digits text fixed marked parts none within front back =
    read-cut digits text within
    ∙ ap (λ (xs : List ℕ). option_and_then (λ (next : List Part). with_all digits next (slice_split is_open xs)) (with_fixed [] (before_first is_open text))) (sym back)
    ∙ ap (λ (xs : List ℕ). option_and_then (λ (next : List Part). with_all digits next (slice_split is_open marked)) (with_fixed [] xs)) (sym front)
    ∙ ap (λ (xs : List Part). option_and_then (λ (next : List Part). with_all digits next (slice_split is_open marked)) (with_fixed xs fixed)) (sym none)
