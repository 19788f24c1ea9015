-- Two rows compared by their words.
use Rattle.std.proofs.Common.{◌≡◌, ℕ, ◌+◌, ◌-◌, ◌^◌, ◌<◌, min, Bool, List, length, get_or, take, drop, sym, ap, ◌∙◌, inl, inr, arith, bit_and, bit_xor, w64}
use Rattle.std.specs.Int.{bit_not}
use Rattle.std.specs.List.{All}
use Rattle.std.proofs.lemmas.Bool.{cases_lt}
use Rattle.std.proofs.lemmas.List.{get_or-take, get_or-drop, get_or_past, length-take, length-drop, take_rest, ext_get_or}
use Rattle.std.proofs.lemmas.List.Elements.{All-from_get_or}
use Rattle.std.proofs.lemmas.Nat.{and-not, and_comm, and_le_l, and_le_r}
use lib.Bits.{xor_self}
use Rattle.bit_rows.specs.Packing.{IsPacked}
use Rattle.bit_rows.specs.Places.{IsSubset}
use Rattle.bit_rows.specs.Words.{GivesNone}
use Rattle.bit_rows.proofs.Blocks.{xor_zero}
use Rattle.bit_rows.proofs.Packed.{word_below, subset_from_words, words_from_subset}

abbrev pub minus_word : ℕ → ℕ → ℕ
minus_word v w = bit_and v (bit_not w64 w)

-- what two words have in common and what is left of the first
split_word : (v w : ℕ) → v < 2 ^ 64 → w < 2 ^ 64 → minus_word v w + bit_and v w ≡ v
split_word v w p q = omega (arith, and-not 64 w v q p, and_comm v (bit_not w64 w), and_comm v w)

module _ (vs ws : List ℕ) (a b : List Bool) (p : IsPacked vs a) (q : IsPacked ws b) (shared : ℕ) (least : shared ≡ min (length vs) (length ws)) where
  pub subset_from_parts : GivesNone minus_word (take shared vs) (take shared ws) 0 (length (take shared vs)) → All (λ w. w ≡ 0) (take (length vs - shared) (drop shared vs)) → IsSubset a b
  subset_from_parts none in_rest =
      let zeros : All (λ w. w ≡ 0) (drop shared vs) = rw (← take_rest vs shared) in_rest in
      subset_from_words vs ws a b p q (λ k.
      elim (cases_lt k shared) [
        | inl l ↦
            let x = get_or-take shared vs k 0 l in
            let y = get_or-take shared ws k 0 l in
            let n : minus_word (get_or vs k 0) (get_or ws k 0) ≡ 0 = rw (← x, ← y) (none k (omega arith) (omega (arith, length-take shared vs))) in
            omega (arith, split_word (get_or vs k 0) (get_or ws k 0) (word_below vs a p k) (word_below ws b q k))
        | inr g ↦
            let zero : get_or vs k 0 ≡ 0 =
            elim (cases_lt k (length vs)) [
              | inl l ↦
                  let place : shared + (k - shared) ≡ k = omega arith in
                  sym (get_or-drop shared vs (k - shared) 0 ∙ ap (λ i. get_or vs i 0) place) ∙ zeros (k - shared) 0 (omega (arith, length-drop shared vs))
              | inr h ↦ get_or_past vs k 0 h
            ] in
            omega (arith, and_le_l (get_or vs k 0) (get_or ws k 0))
      ])

  pub none_from_subset : IsSubset a b → GivesNone minus_word (take shared vs) (take shared ws) 0 (length (take shared vs))
  none_from_subset subset k low high =
      let l : k < shared = omega (arith, length-take shared vs) in
      let x = get_or-take shared vs k 0 l in
      let y = get_or-take shared ws k 0 l in
      rw (x, y) (omega (arith, split_word (get_or vs k 0) (get_or ws k 0) (word_below vs a p k) (word_below ws b q k), words_from_subset vs ws a b p q subset k))

  pub zeros_from_subset : IsSubset a b → All (λ w. w ≡ 0) (take (length vs - shared) (drop shared vs))
  zeros_from_subset subset = rw (take_rest vs shared) (All-from_get_or (λ w. w ≡ 0) (drop shared vs) 0 (λ i l.
      let k = shared + i in
      let past : get_or ws k 0 ≡ 0 = get_or_past ws k 0 (omega (arith, length-drop shared vs)) in
      get_or-drop shared vs i 0 ∙ omega (arith, words_from_subset vs ws a b p q subset k, and_le_r (get_or vs k 0) (get_or ws k 0))))

-- words that differ in no bit are equal
pub same_from_none : (vs ws : List ℕ) → length vs ≡ length ws → GivesNone bit_xor vs ws 0 (length vs) → vs ≡ ws
same_from_none vs ws e none = ext_get_or 0 vs ws e (λ k l. sym (xor_zero (get_or vs k 0) (get_or ws k 0) (none k (omega arith) l)))

pub none_from_same : (vs ws : List ℕ) → vs ≡ ws → GivesNone bit_xor vs ws 0 (length vs)
none_from_same vs ws e k low high = rw e (xor_self (get_or ws k 0))
