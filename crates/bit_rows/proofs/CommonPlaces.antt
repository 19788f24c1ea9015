-- The least place that is true in two rows, by their words.
use Rattle.std.proofs.Common.{◌≡◌, ℕ, ◌+◌, ◌*◌, ◌/◌, ◌%◌, ◌^◌, ◌<◌, ◌&&◌, Bool, false, List, length, get_or, sym, ap, ◌∙◌, arith, w64, bit_and}
use Rattle.std.specs.Int.{bit_at, trailing_zeros}
use Rattle.std.specs.Simd.Lanes.{zip2}
use Rattle.std.proofs.lemmas.Nat.Bits.{bit_at-zero}
use Rattle.bit_rows.specs.Masks.{and-masks}
use Rattle.bit_rows.specs.Packing.{IsPacked}
use Rattle.bit_rows.specs.Places.{NoneTrue, IsNext, meet}
use Rattle.bit_rows.specs.Words.{GivesNone, GivesFirst}
use Rattle.bit_rows.proofs.NextPlaces.{next_place}
use Rattle.bit_rows.proofs.Packed.{get_or-combined, packed_combined, false_from_no_bit, word_below, same_word_count}

module _ (vs ws : List ℕ) (a b : List Bool) (even : length a ≡ length b) (own : IsPacked vs a) (other : IsPacked ws b) where
  both : IsPacked (zip2 bit_and vs ws) (meet a b)
  both = packed_combined bit_and (λ x y. x && y) and-masks vs ws a b (same_word_count vs ws a b even own other) even own other

  word_of_both : (k : ℕ) → get_or (zip2 bit_and vs ws) k 0 ≡ bit_and (get_or vs k 0) (get_or ws k 0)
  word_of_both k = get_or-combined bit_and (λ x y. x && y) and-masks vs ws k (same_word_count vs ws a b even own other)

  none_before : (end : ℕ) → GivesNone bit_and vs ws 0 end → NoneTrue (meet a b) 0 (64 * end)
  none_before end none j low high =
      let place : 64 * (j / 64) + j % 64 ≡ j = omega arith in
      let zero : get_or (zip2 bit_and vs ws) (j / 64) 0 ≡ 0 = word_of_both (j / 64) ∙ none (j / 64) (omega arith) (omega arith) in
      ap (λ p. get_or (meet a b) p false) (sym place)
      ∙ false_from_no_bit (zip2 bit_and vs ws) (meet a b) both (j / 64) (j % 64) (omega arith) (ap (λ w. bit_at w (j % 64)) zero ∙ bit_at-zero (j % 64))

  pub none_common : GivesNone bit_and vs ws 0 (length vs) → NoneTrue (meet a b) 0 (length a)
  none_common none j low high = none_before (length vs) none j low (omega (arith, own.enough))

  pub next_common : (k w : ℕ) → w ≡ bit_and (get_or vs k 0) (get_or ws k 0) → GivesFirst bit_and vs ws k → IsNext (meet a b) 0 (64 * k + trailing_zeros w64 w)
  next_common k w is first =
      let held : w ≡ get_or (zip2 bit_and vs ws) k 0 = is ∙ sym (word_of_both k) in
      let fits : w < 2 ^ 64 = rw held (word_below (zip2 bit_and vs ws) (meet a b) both k) in
      next_place (zip2 bit_and vs ws) (meet a b) both 0 k w (λ zero. first.some (sym is ∙ zero)) fits (λ i l h. absurd (omega arith)) (λ i l h. ap (λ v. bit_at v i) held)
      (none_before k first.none)
