-- The least true place of a row, by its words.
use Rattle.std.proofs.Common.{◌≡◌, ◌≢◌, ℕ, ◌+◌, ◌*◌, ◌/◌, ◌%◌, ◌^◌, ◌-◌, ◌<◌, ◌≤◌, Bool, true, false, List, length, get_or, sym, ap, ◌∙◌, inl, inr, arith}
use Rattle.std.specs.Int.{bit_at, trailing_zeros, w64}
use Rattle.std.proofs.lemmas.Bool.{cases_lt, cases_eq, false≢true}
use Rattle.std.proofs.lemmas.List.{get_or_past}
use Rattle.std.proofs.lemmas.Nat.Bits.{bit_at-trailing_zeros, bit_at-zero}
use Rattle.bit_rows.specs.Packing.{IsPacked}
use Rattle.bit_rows.specs.Places.{NoneTrue, IsNext}
use Rattle.bit_rows.specs.Words.{IsNextWord}
use Rattle.bit_rows.proofs.Packed.{true_from_bit, false_from_no_bit, word_below}

pub true_within : (row : List Bool) (at : ℕ) → get_or row at false ≡ true → at < length row
true_within row at e = elim (cases_lt at (length row)) [ inl l ↦ l | inr g ↦ absurd (false≢true (sym (get_or_past row at false g) ∙ e)) ]

module _ (ws : List ℕ) (row : List Bool) (packed : IsPacked ws row) (at : ℕ) where
  -- the lowest bit of w, which has those of word k that are not below `at`
  pub next_place : (k w : ℕ) → w ≢ 0 → w < 2 ^ 64 → ((i : ℕ) → i < 64 → 64 * k + i < at → bit_at w i ≡ 0)
      → ((i : ℕ) → i < 64 → at ≤ 64 * k + i → bit_at w i ≡ bit_at (get_or ws k 0) i) → NoneTrue row at (64 * k) → IsNext row at (64 * k + trailing_zeros w64 w)
  next_place k w some fits low high before =
      let z = trailing_zeros w64 w in
      let lowest = bit_at-trailing_zeros w64 w (omega (arith, some)) fits in
      let not_below : at ≤ 64 * k + z =
      elim (cases_lt (64 * k + z) at) [ inl l ↦ absurd (omega (arith, low z lowest.0 l, lowest.1)) | inr g ↦ g ] in
      record {
        not_below = not_below;
        is_true = true_from_bit ws row packed k z lowest.0 (sym (high z lowest.0 not_below) ∙ lowest.1);
        least = λ j from below. elim (cases_lt j (64 * k)) [
          | inl l ↦ before j from l
          | inr g ↦
              let place : 64 * k + (j - 64 * k) ≡ j = omega arith in
              let i : j - 64 * k < z = omega arith in
              let within : j - 64 * k < 64 = omega (arith, lowest.0) in
              ap (λ p. get_or row p false) (sym place)
              ∙ false_from_no_bit ws row packed k (j - 64 * k) within (sym (high (j - 64 * k) within (omega arith)) ∙ lowest.2 (j - 64 * k) i)
        ];
      }

  -- no place is true where its word has no bit from it on
  pub none_true : (end : ℕ) → ((i : ℕ) → i < 64 → at % 64 ≤ i → bit_at (get_or ws (at / 64) 0) i ≡ 0) → ((k : ℕ) → at / 64 < k → k < end → get_or ws k 0 ≡ 0) → NoneTrue row at (64 * end)
  none_true end own zero_words j from below =
      let place : 64 * (j / 64) + j % 64 ≡ j = omega arith in
      let k : at / 64 ≤ j / 64 = omega arith in
      ap (λ p. get_or row p false) (sym place) ∙ false_from_no_bit ws row packed (j / 64) (j % 64) (omega arith) (elim (cases_eq (j / 64) (at / 64)) [
        | inl e ↦ rw e (own (j % 64) (omega arith) (omega arith))
        | inr n ↦ ap (λ w. bit_at w (j % 64)) (zero_words (j / 64) (omega arith) (omega arith)) ∙ bit_at-zero (j % 64)
      ])

  -- the word of the place, and what is left of it from the place on
  module _ (word rest : ℕ) (held : word ≡ get_or ws (at / 64) 0) (below : (i : ℕ) → i < at % 64 → bit_at rest i ≡ 0) (kept : (i : ℕ) → at % 64 ≤ i → i < 64 → bit_at rest i ≡ bit_at word i) where
    pub next_in_own : rest ≢ 0 → rest < 2 ^ 64 → IsNext row at (64 * (at / 64) + trailing_zeros w64 rest)
    next_in_own some fits =
        next_place (at / 64) rest some fits (λ i l h. below i (omega arith)) (λ i l h. kept i (omega arith) l ∙ ap (λ w. bit_at w i) held) (λ j low high. absurd (omega arith))

    own_is_zero : rest ≡ 0 → (i : ℕ) → i < 64 → at % 64 ≤ i → bit_at (get_or ws (at / 64) 0) i ≡ 0
    own_is_zero none i l low = ap (λ w. bit_at w i) (sym held) ∙ sym (kept i low l) ∙ ap (λ w. bit_at w i) none ∙ bit_at-zero i

    pub next_after_own : rest ≡ 0 → (k found : ℕ) → found ≡ get_or ws k 0 → IsNextWord ws (at / 64 + 1) k → IsNext row at (64 * k + trailing_zeros w64 found)
    next_after_own none k found is next =
        let fits : found < 2 ^ 64 = rw is (word_below ws row packed k) in
        next_place k found (λ e. next.has_bits (sym is ∙ e)) fits (λ i l h. absurd (omega (arith, next.not_below))) (λ i l h. ap (λ w. bit_at w i) is)
        (none_true k (own_is_zero none) (λ j low high. next.first j (omega arith) high))

    pub none_after_own : rest ≡ 0 → ((k : ℕ) → at / 64 + 1 ≤ k → get_or ws k 0 ≡ 0) → NoneTrue row at (length row)
    none_after_own none zero_words j low high =
        none_true (length ws) (own_is_zero none) (λ k l h. zero_words k (omega arith)) j low (omega (arith, packed.enough))
