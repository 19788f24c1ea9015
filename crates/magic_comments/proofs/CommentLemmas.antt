-- A loop over the comments of a gap: what is passed over, and one front after another.
use Rattle.std.proofs.Common.{◌≡◌, ◌≤◌, ◌<◌, ◌+◌, ◌-◌, ℕ, suc, zero, Bool, true, false, cond, List, [], ◌∷◌, length, drop, refl, sym, ap, ◌∙◌, arith, add-zero, length-drop, inl, inr, ◌⊎◌}
use Rattle.std.specs.Prelude.{codes}
use Rattle.std.proofs.lemmas.List.{drop_all}
use Rattle.magic_comments.specs.Comments.{begins, block_comments, content_of, line_length, front_length}
use Rattle.magic_comments.specs.Magic.{read_comment, read_comments, after_front}
use Rattle.magic_comments.specs.declared.magic.Magic.{Magic}

pub skipped : (passed at : ℕ) (bytes : List ℕ) → block_comments passed at bytes ≡ block_comments zero (at + passed) (drop passed bytes)
skipped zero at [] = refl
skipped zero at (byte ∷ bytes) = rw add-zero refl
skipped (suc passed) at [] = refl
skipped (suc passed) at (byte ∷ bytes) =
    let e : (at + 1) + passed ≡ at + suc passed = omega arith in
    skipped passed (at + 1) bytes ∙ ap (λ place. block_comments zero place (drop passed bytes)) e

-- the first byte, and those that are passed over behind it
behind_first : (passed more at : ℕ) (byte : ℕ) (bytes : List ℕ) → more ≡ suc passed
    → block_comments passed (at + 1) bytes ≡ block_comments zero (at + more) (drop more (byte ∷ bytes))
behind_first passed more at byte bytes same =
    let e : (at + 1) + passed ≡ at + suc passed = omega arith in
    skipped passed (at + 1) bytes ∙ ap (λ place. block_comments zero place (drop passed bytes)) e
    ∙ ap (λ n. block_comments zero (at + n) (drop n (byte ∷ bytes))) (sym same)

-- by what stands first: a comment, a line's comment, or neither
turn_by : (comment line : Bool) (magic : Magic) (at byte : ℕ) (bytes content : List ℕ) (size : ℕ)
    → read_comments magic (cond comment ((at, content) ∷ block_comments (length content + 3) (at + 1) bytes)
    (cond line (block_comments size (at + 1) bytes) (block_comments zero (at + 1) bytes)))
    ≡ read_comments (cond comment (read_comment magic (at, content)) magic)
    (block_comments zero (at + cond comment (length content + 4) (cond line (size + 1) 1))
    (drop (cond comment (length content + 4) (cond line (size + 1) 1)) (byte ∷ bytes)))
turn_by true line magic at byte bytes content size =
    ap (read_comments (read_comment magic (at, content))) (behind_first (length content + 3) (length content + 4) at byte bytes (omega arith))
turn_by false true magic at byte bytes content size =
    ap (read_comments magic) (behind_first size (size + 1) at byte bytes (omega arith))
turn_by false false magic at byte bytes content size = refl

-- what stands first is read, and the rest after it
turn : (magic : Magic) (at byte : ℕ) (bytes : List ℕ)
    → read_comments magic (block_comments zero at (byte ∷ bytes))
    ≡ read_comments (after_front magic at (byte ∷ bytes))
    (block_comments zero (at + front_length (byte ∷ bytes)) (drop (front_length (byte ∷ bytes)) (byte ∷ bytes)))
turn magic at byte bytes =
    turn_by (begins (byte ∷ bytes) (codes "/*")) (begins (byte ∷ bytes) (codes "//")) magic at byte bytes (content_of (byte ∷ bytes)) (line_length bytes)

-- the offset of what is left, by how much is left
moved : (at size : ℕ) (rest gap : List ℕ) → length rest ≤ length gap
    → block_comments zero ((at + (length gap - length rest)) + size) (drop size rest)
    ≡ block_comments zero (at + (length gap - length (drop size rest))) (drop size rest)
moved at size rest gap within = by (cases size (length rest))
  where
    cases : (a b : ℕ) → (a ≤ b) ⊎ (b ≤ a)
    cases a b = grind arith

    by : (size ≤ length rest) ⊎ (length rest ≤ size)
        → block_comments zero ((at + (length gap - length rest)) + size) (drop size rest)
        ≡ block_comments zero (at + (length gap - length (drop size rest))) (drop size rest)
    by (inl small) =
        let e : (at + (length gap - length rest)) + size ≡ at + (length gap - length (drop size rest)) = omega (arith, length-drop size rest) in
        ap (λ place. block_comments zero place (drop size rest)) e
    by (inr large) =
        let e : drop size rest ≡ [] = drop_all size rest large in
        rw e refl

-- one turn of the loop over what is left of a gap
pub gap_turn : (magic : Magic) (at size : ℕ) (rest gap : List ℕ) → 0 < length rest → length rest ≤ length gap → size ≡ front_length rest
    → read_comments magic (block_comments zero (at + (length gap - length rest)) rest)
    ≡ read_comments (after_front magic (at + (length gap - length rest)) rest)
    (block_comments zero (at + (length gap - length (drop size rest))) (drop size rest))
gap_turn magic at size [] gap some within same = absurd (omega arith)
gap_turn magic at size (byte ∷ bytes) gap some within same =
    turn magic (at + (length gap - length (byte ∷ bytes))) byte bytes
    ∙ ap (λ n. read_comments (after_front magic (at + (length gap - length (byte ∷ bytes))) (byte ∷ bytes))
    (block_comments zero ((at + (length gap - length (byte ∷ bytes))) + n) (drop n (byte ∷ bytes)))) (sym same)
    ∙ ap (read_comments (after_front magic (at + (length gap - length (byte ∷ bytes))) (byte ∷ bytes))) (moved at size (byte ∷ bytes) gap within)
