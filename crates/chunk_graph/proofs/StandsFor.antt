-- Which chunk stands for another.
use Rattle.std.proofs.Common.{◌≡◌, ℕ, ◌<◌, ◌≤◌, Bool, true, false, not, ◌&&◌, List, get_or, sym, ap, subst, ◌∙◌, inl, inr, arith}
use Rattle.std.specs.List.{range_with_len, position_or_len}
use Rattle.std.proofs.lemmas.Bool.{and_parts, cases_Bool, cond-true, cond-false, not-true, cases_lt}
use Rattle.chunk_graph.specs.declared.chunk.Chunk.{Chunk}
use Rattle.chunk_graph.specs.Chunks.{no_chunk}
use Rattle.chunk_graph.specs.Moves.{may_merge, are_equal, same_row, merged_into}
use Rattle.chunk_graph.proofs.Lists.{first_is, first_le, first_passes, first_before}
use Rattle.chunk_graph.proofs.Rows.{from_same_row}

merged_into-first : (chunks : List Chunk) (i j : ℕ) → may_merge (get_or chunks i no_chunk) ≡ true → j ≤ i
    → ((k : ℕ) → k < j → are_equal (get_or chunks i no_chunk) (get_or chunks k no_chunk) ≡ false)
    → (j < i → are_equal (get_or chunks i no_chunk) (get_or chunks j no_chunk) ≡ true) → merged_into chunks i ≡ j
merged_into-first chunks i j may le before here =
    cond-true (may_merge (get_or chunks i no_chunk)) _ i may ∙ first_is (λ j. are_equal (get_or chunks i no_chunk) (get_or chunks j no_chunk)) i j le before here

-- the loop's two ends
pub merged_into-found : (chunks : List Chunk) (i j : ℕ) (x y : Chunk) → x ≡ get_or chunks i no_chunk → y ≡ get_or chunks j no_chunk → may_merge x ≡ true → j < i
    → ((k : ℕ) → k < j → are_equal (get_or chunks i no_chunk) (get_or chunks k no_chunk) ≡ false) → are_equal x y ≡ true → j ≡ merged_into chunks i
merged_into-found chunks i j x y ex ey may lt before eq =
    sym (merged_into-first chunks i j (ap may_merge (sym ex) ∙ may) (omega arith) before (λ l. ap (λ c. are_equal c (get_or chunks j no_chunk)) (sym ex) ∙ (ap (λ c. are_equal x c) (sym ey) ∙ eq)))

pub merged_into-none : (chunks : List Chunk) (i : ℕ) (x : Chunk) → x ≡ get_or chunks i no_chunk → may_merge x ≡ true
    → ((k : ℕ) → k < i → are_equal (get_or chunks i no_chunk) (get_or chunks k no_chunk) ≡ false) → i ≡ merged_into chunks i
merged_into-none chunks i x ex may before = sym (merged_into-first chunks i i (ap may_merge (sym ex) ∙ may) (omega arith) before (λ l. absurd (omega arith)))

-- what stands for a chunk that isn't gone is there, isn't gone, and nothing else stands for it
pub record Stands (chunks : List Chunk) (c i : ℕ) : Type 0 where
  pub below : i ≤ c
  pub there : (get_or chunks i no_chunk).gone ≡ false
  pub stays : merged_into chunks i ≡ i

itself : (chunks : List Chunk) (c i : ℕ) → (get_or chunks c no_chunk).gone ≡ false → merged_into chunks c ≡ c → i ≡ c → Stands chunks c i
itself chunks c i there e same = let P : ℕ → Type 0 = λ n. Stands chunks c n in subst P (sym same) (record { below = omega arith; there = there; stays = e })

equals_alike : (x y z : Chunk) → x.mods ≡ y.mods → are_equal x z ≡ are_equal y z
equals_alike x y z e = ap (λ m. may_merge z && same_row z.mods m) e

earlier : (chunks : List Chunk) (c i : ℕ) → i < c → are_equal (get_or chunks c no_chunk) (get_or chunks i no_chunk) ≡ true
    → ((k : ℕ) → k < i → are_equal (get_or chunks c no_chunk) (get_or chunks k no_chunk) ≡ false) → Stands chunks c i
earlier chunks c i lt eq before =
    let x = get_or chunks c no_chunk in
    let y = get_or chunks i no_chunk in
    let parts = and_parts (may_merge y) (same_row y.mods x.mods) eq in
    let same : y.mods ≡ x.mods = from_same_row y.mods x.mods parts.1 in
    let unnamed = and_parts (not y.entry) _ parts.0 in
    let there = and_parts _ (not y.gone) unnamed.1 in
    record {
      below = omega arith;
      there = not-true y.gone there.1;
      stays = merged_into-first chunks i i parts.0 (omega arith) (λ k l. equals_alike y x (get_or chunks k no_chunk) same ∙ before k l) (λ l. absurd (omega arith));
    }

pub merged_into-stands : (chunks : List Chunk) (c : ℕ) → (get_or chunks c no_chunk).gone ≡ false → Stands chunks c (merged_into chunks c)
merged_into-stands chunks c there = elim (cases_Bool (may_merge (get_or chunks c no_chunk))) [
  | inl may ↦
      let p : ℕ → Bool = λ j. are_equal (get_or chunks c no_chunk) (get_or chunks j no_chunk) in
      let i = position_or_len p (range_with_len 0 c) in
      let e : merged_into chunks c ≡ i = cond-true (may_merge (get_or chunks c no_chunk)) _ c may in
      let P : ℕ → Type 0 = λ n. Stands chunks c n in
      subst P (sym e) (elim (cases_lt i c) [
        | inl lt ↦ earlier chunks c i lt (first_passes p c lt) (λ k l. first_before p c k l)
        | inr ge ↦ let same : i ≡ c = omega (arith, first_le p c) in itself chunks c i there (e ∙ same) same
      ])
  | inr not ↦ let e : merged_into chunks c ≡ c = cond-false (may_merge (get_or chunks c no_chunk)) _ c not in itself chunks c (merged_into chunks c) there e e
]
