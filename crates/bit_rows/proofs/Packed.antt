-- Words that hold a row: what each of their bits says of the row.
use Rattle.std.proofs.Common.{◌≡◌, ◌≢◌, ℕ, zero, suc, ◌+◌, ◌-◌, ◌*◌, ◌/◌, ◌%◌, ◌^◌, ◌<◌, ◌≤◌, min, Bool, true, false, cond, eqb, List, [], ◌∷◌, ◌++◌, length, get_or, set, take, drop, replicate, refl, sym, ap, ◌∙◌, subst, inl, inr, arith, bit_and}
use Rattle.std.specs.Bool.{MatchBool}
use Rattle.std.specs.Int.{bit_at}
use Rattle.std.specs.List.{count_by, sum_by}
use Rattle.std.specs.Prelude.{count_ones}
use Rattle.std.specs.Simd.Lanes.{zip2, mask_l, chunk}
use Rattle.std.proofs.lemmas.Bool.{cases_eq, cases_lt}
use Rattle.std.proofs.lemmas.List.{length-take, length-drop, length-append, length-set, get_or-set_same, get_or-set_other, get_or_past, get_or-replicate, length-replicate, ext_get_or, take_all, map-id}
use Rattle.std.proofs.lemmas.List.FromFn.{length-map-range_with_len, get_or-map-range_with_len}
use Rattle.std.proofs.lemmas.List.Sums.{sum_by-append, sum_by_more}
use Rattle.std.proofs.Math.Seq.{take-add}
use Rattle.std.proofs.lemmas.Nat.Bits.{same_from_bits_below, bit_at-lt, bit_at-zero, bit_at_and, bit_at_ones, bit_at_ones_above}
use Rattle.std.proofs.Math.Nat.{pow-le-pow_right}
use Rattle.std.proofs.lemmas.Nat.{and_le_l}
use Rattle.std.proofs.lemmas.Simd.{bit_mask_l, get_or-chunk, get_or-zip2, length-zip2, ones-mask_l}
use Rattle.bit_rows.specs.Masks.{mask_below}
use Rattle.bit_rows.specs.Packing.{row_of, IsPacked}
use Rattle.bit_rows.specs.Places.{IsSubset}

pub length-row_of : (n : ℕ) (ws : List ℕ) → length (row_of n ws) ≡ n
unfolding row_of
length-row_of n ws = length-map-range_with_len (λ at. eqb (bit_at (get_or ws (at / 64) 0) (at % 64)) 1) 0 n

get_or-row_of : (n : ℕ) (ws : List ℕ) (i : ℕ) → i < n → get_or (row_of n ws) i false ≡ eqb (bit_at (get_or ws (i / 64) 0) (i % 64)) 1
unfolding row_of
get_or-row_of n ws i l = get_or-map-range_with_len (λ at. eqb (bit_at (get_or ws (at / 64) 0) (at % 64)) 1) 0 n i i false l (omega arith)

abbrev bit_of : Bool → ℕ
bit_of b = cond b 1 0

chunk_short : (i : ℕ) (row : List Bool) → length (chunk i 64 row) ≤ 64
chunk_short i row = omega (arith, length-take 64 (drop i row))

pub word_below : (ws : List ℕ) (row : List Bool) → IsPacked ws row → (k : ℕ) → get_or ws k 0 < 2 ^ 64
word_below ws row p k = rw (p.packed k) (mask_below (chunk (64 * k) 64 row) (chunk_short (64 * k) row))

-- bit i of word k
pub bit_of_word : (ws : List ℕ) (row : List Bool) → IsPacked ws row → (k i : ℕ) → i < 64 → bit_at (get_or ws k 0) i ≡ cond (get_or row (64 * k + i) false) 1 0
bit_of_word ws row p k i l =
    ap (λ w. bit_at w i) (p.packed k) ∙ bit_mask_l (chunk (64 * k) 64 row) i ∙ ap (λ b. cond b 1 0) (get_or-chunk (64 * k) 64 row i false l)

pub packed_from_bits : (ws : List ℕ) (row : List Bool) → length row ≤ 64 * length ws → 64 * length ws < length row + 64
    → ((k : ℕ) → get_or ws k 0 < 2 ^ 64) → ((k i : ℕ) → i < 64 → bit_at (get_or ws k 0) i ≡ cond (get_or row (64 * k + i) false) 1 0)
    → IsPacked ws row
packed_from_bits ws row enough fewest below bits = record {
  enough = enough;
  fewest = fewest;
  packed = λ k. same_from_bits_below 64 _ _ (below k) (mask_below (chunk (64 * k) 64 row) (chunk_short (64 * k) row)) (λ i l.
      bits k i l ∙ sym (bit_mask_l (chunk (64 * k) 64 row) i ∙ ap (λ b. cond b 1 0) (get_or-chunk (64 * k) 64 row i false l)));
}

test_of_bit : (b : Bool) → eqb (cond b 1 0) 1 ≡ b
test_of_bit true = refl
test_of_bit false = refl

-- the words determine the row
pub row_is : (n : ℕ) (ws : List ℕ) (row : List Bool) → length row ≡ n → IsPacked ws row → row_of n ws ≡ row
row_is n ws row e p = ext_get_or false _ _ (length-row_of n ws ∙ sym e) (λ i l.
    let within : i < n = omega (arith, length-row_of n ws) in
    let place : 64 * (i / 64) + i % 64 ≡ i = omega arith in
    get_or-row_of n ws i within ∙ ap (λ b. eqb b 1) (bit_of_word ws row p (i / 64) (i % 64) (omega arith)) ∙ test_of_bit _ ∙ ap (λ j. get_or row j false) place)

pub packed_view : (n : ℕ) (ws : List ℕ) (row : List Bool) → length row ≡ n → IsPacked ws row → IsPacked ws (row_of n ws)
packed_view n ws row e p = subst (λ (r : List Bool). IsPacked ws r) (sym (row_is n ws row e p)) p

get_or-padded : {X : Type 0} (xs : List X) (m i : ℕ) (d : X) → get_or (xs ++ replicate m d) i d ≡ get_or xs i d
get_or-padded [] m i d = elim (cases_lt i m) [ inl l ↦ get_or-replicate m i d d l | inr g ↦ get_or_past (replicate m d) i d (omega (arith, length-replicate m d)) ]
get_or-padded (x ∷ xs) m zero d = refl
get_or-padded (x ∷ xs) m (suc i) d = get_or-padded xs m i d

-- more words of no bit, for more places that are false
pub packed_grown : (ws : List ℕ) (row : List Bool) (m j : ℕ) → IsPacked ws row → length row + j ≤ 64 * (length ws + m) → 64 * (length ws + m) < length row + j + 64
    → IsPacked (ws ++ replicate m 0) (row ++ replicate j false)
packed_grown ws row m j p enough fewest = packed_from_bits _ _
    (omega (arith, length-append ws (replicate m 0), length-append row (replicate j false), length-replicate {A = ℕ} m 0, length-replicate j false))
    (omega (arith, length-append ws (replicate m 0), length-append row (replicate j false), length-replicate {A = ℕ} m 0, length-replicate j false))
    (λ k. rw (get_or-padded ws m k 0) (word_below ws row p k))
    (λ k i l. ap (λ w. bit_at w i) (get_or-padded ws m k 0) ∙ bit_of_word ws row p k i l ∙ ap (λ b. cond b 1 0) (sym (get_or-padded row j (64 * k + i) false)))

drop_nil : {X : Type 0} (n : ℕ) → drop {A = X} n [] ≡ []
drop_nil zero = refl
drop_nil (suc n) = refl

packed_nil : IsPacked [] []
packed_nil = record { enough = omega arith; fewest = omega arith; packed = λ k. sym (ap (λ l. mask_l (take 64 l)) (drop_nil (64 * k))) }

pub packed_blank : (m n : ℕ) → n ≤ 64 * m → 64 * m < n + 64 → IsPacked (replicate m 0) (replicate n false)
packed_blank m n enough fewest = packed_grown [] [] m n packed_nil (omega arith) (omega arith)

-- words of all bits but the last, which has those of the places that are left
pub packed_full : (n last w : ℕ) → 64 * last < n → n ≤ 64 * (last + 1) → w ≡ 2 ^ (n - 64 * last) - 1 → IsPacked (set (replicate (last + 1) (2 ^ 64 - 1)) last w) (replicate n true)
packed_full n last w low high is =
    let ones = replicate (last + 1) (2 ^ 64 - 1) in
    let ws = set ones last w in
    let many = length-replicate {A = ℕ} (last + 1) (2 ^ 64 - 1) in
    let long : length ws ≡ last + 1 = length-set ones last w ∙ many in
    let wide : length (replicate n true) ≡ n = length-replicate n true in
    let own : get_or ws last 0 ≡ 2 ^ (n - 64 * last) - 1 = get_or-set_same ones last w 0 (omega (arith, many)) ∙ is in
    let other : (k : ℕ) → k < last → get_or ws k 0 ≡ 2 ^ 64 - 1 = λ k l.
    get_or-set_other ones last k w 0 (λ e. absurd (omega arith)) ∙ get_or-replicate (last + 1) k (2 ^ 64 - 1) 0 (omega arith) in
    packed_from_bits _ _ (omega (arith, long, wide)) (omega (arith, long, wide))
    (λ k. elim (cases_lt k last) [
      | inl l ↦ rw (other k l) (omega arith)
      | inr g ↦ elim (cases_eq k last) [
        | inl e ↦ rw (e, own) (omega (arith, pow-le-pow_right {n = 2} (omega arith) (let short : n - 64 * last ≤ 64 = omega arith in short)))
        | inr d ↦ rw (get_or_past ws k 0 (omega (arith, long))) (omega arith)
      ]
    ])
    (λ k i l. elim (cases_lt k last) [
      | inl before ↦ ap (λ v. bit_at v i) (other k before) ∙ bit_at_ones 64 i l ∙ sym (ap (λ b. cond b 1 0) (get_or-replicate n (64 * k + i) true false (omega arith)))
      | inr g ↦ elim (cases_eq k last) [
        | inl e ↦ elim (cases_lt i (n - 64 * last)) [
          | inl within ↦ ap (λ j. bit_at (get_or ws j 0) i) e ∙ ap (λ v. bit_at v i) own ∙ bit_at_ones (n - 64 * last) i within
              ∙ sym (ap (λ b. cond b 1 0) (get_or-replicate n (64 * k + i) true false (omega arith)))
          | inr above ↦ ap (λ j. bit_at (get_or ws j 0) i) e ∙ ap (λ v. bit_at v i) own ∙ bit_at_ones_above (n - 64 * last) i above
              ∙ sym (ap (λ b. cond b 1 0) (get_or_past (replicate n true) (64 * k + i) false (omega (arith, wide))))
        ]
        | inr d ↦ ap (λ v. bit_at v i) (get_or_past ws k 0 (omega (arith, long))) ∙ bit_at-zero i
            ∙ sym (ap (λ b. cond b 1 0) (get_or_past (replicate n true) (64 * k + i) false (omega (arith, wide))))
      ]
    ])

-- one bit of one word, for one place
pub packed_set : (ws : List ℕ) (row : List Bool) (at w : ℕ) (to : Bool) → IsPacked ws row → at < length row → w < 2 ^ 64 → bit_at w (at % 64) ≡ cond to 1 0
    → ((i : ℕ) → i < 64 → i ≢ at % 64 → bit_at w i ≡ bit_at (get_or ws (at / 64) 0) i) → IsPacked (set ws (at / 64) w) (set row at to)
packed_set ws row at w to p within below same others = packed_from_bits _ _
    (omega (arith, p.enough, length-set ws (at / 64) w, length-set row at to))
    (omega (arith, p.fewest, length-set ws (at / 64) w, length-set row at to))
    (λ k. elim (cases_eq k (at / 64)) [
      | inl e ↦ rw (e, get_or-set_same ws (at / 64) w 0 (omega (arith, p.enough))) below
      | inr n ↦ rw (get_or-set_other ws (at / 64) k w 0 n) (word_below ws row p k)
    ])
    (λ k i l. elim (cases_eq k (at / 64)) [
      | inl e ↦ rw (e, get_or-set_same ws (at / 64) w 0 (omega (arith, p.enough))) (elim (cases_eq i (at % 64)) [
        | inl f ↦ let place : 64 * (at / 64) + at % 64 ≡ at = omega arith in rw (f, place, get_or-set_same row at to false within) same
        | inr g ↦ others i l g ∙ bit_of_word ws row p (at / 64) i l ∙ ap (λ b. cond b 1 0) (sym (get_or-set_other row at (64 * (at / 64) + i) to false (λ h. g (omega arith))))
      ])
      | inr n ↦ ap (λ v. bit_at v i) (get_or-set_other ws (at / 64) k w 0 n) ∙ bit_of_word ws row p k i l ∙ ap (λ b. cond b 1 0) (sym (get_or-set_other row at (64 * k + i) to false (λ h. n (omega arith))))
    ])

take-zip2 : {X Y Z : Type 0} (f : X → Y → Z) (n : ℕ) (xs : List X) (ys : List Y) → take n (zip2 f xs ys) ≡ zip2 f (take n xs) (take n ys)
take-zip2 f zero xs ys = refl
take-zip2 f (suc n) [] ys = refl
take-zip2 f (suc n) (x ∷ xs) [] = refl
take-zip2 f (suc n) (x ∷ xs) (y ∷ ys) = ap (λ l. f x y ∷ l) (take-zip2 f n xs ys)

drop-zip2 : {X Y Z : Type 0} (f : X → Y → Z) (n : ℕ) (xs : List X) (ys : List Y) → length xs ≡ length ys → drop n (zip2 f xs ys) ≡ zip2 f (drop n xs) (drop n ys)
drop-zip2 f zero xs ys e = refl
drop-zip2 f (suc n) [] ys e = refl
drop-zip2 f (suc n) (x ∷ xs) [] e = absurd (omega arith)
drop-zip2 f (suc n) (x ∷ xs) (y ∷ ys) e = drop-zip2 f n xs ys (omega arith)

chunk-zip2 : {X Y Z : Type 0} (f : X → Y → Z) (i n : ℕ) (xs : List X) (ys : List Y) → length xs ≡ length ys → chunk i n (zip2 f xs ys) ≡ zip2 f (chunk i n xs) (chunk i n ys)
chunk-zip2 f i n xs ys e = ap (take n) (drop-zip2 f i xs ys e) ∙ take-zip2 f n (drop i xs) (drop i ys)

-- the words and the bits of two rows, combined
module _ (word : ℕ → ℕ → ℕ) (bit : Bool → Bool → Bool) (by_bits : (xs ys : List Bool) → length xs ≡ length ys → length xs ≤ 64 → word (mask_l xs) (mask_l ys) ≡ mask_l (zip2 bit xs ys)) where
  pub get_or-combined : (vs ws : List ℕ) (k : ℕ) → length vs ≡ length ws → get_or (zip2 word vs ws) k 0 ≡ word (get_or vs k 0) (get_or ws k 0)
  get_or-combined vs ws k e =
      elim (cases_lt k (length vs)) [
        | inl l ↦ get_or-zip2 word vs ws k 0 0 0 l (omega arith)
        | inr g ↦
            let a : get_or vs k 0 ≡ 0 = get_or_past vs k 0 g in
            let b : get_or ws k 0 ≡ 0 = get_or_past ws k 0 (omega arith) in
            get_or_past (zip2 word vs ws) k 0 (omega (arith, length-zip2 word vs ws e)) ∙ sym (rw (a, b) (by_bits [] [] refl (omega arith)))
      ]

  pub packed_combined : (vs ws : List ℕ) (a b : List Bool) → length vs ≡ length ws → length a ≡ length b → IsPacked vs a → IsPacked ws b → IsPacked (zip2 word vs ws) (zip2 bit a b)
  packed_combined vs ws a b e f p q = record {
    enough = omega (arith, p.enough, length-zip2 word vs ws e, length-zip2 bit a b f);
    fewest = omega (arith, p.fewest, length-zip2 word vs ws e, length-zip2 bit a b f);
    packed = λ k.
        let chunks : length (chunk (64 * k) 64 a) ≡ length (chunk (64 * k) 64 b) = omega (arith, length-take 64 (drop (64 * k) a), length-take 64 (drop (64 * k) b), length-drop (64 * k) a, length-drop (64 * k) b) in
        get_or-combined vs ws k e ∙ ap (λ v. word v (get_or ws k 0)) (p.packed k) ∙ ap (word (mask_l (chunk (64 * k) 64 a))) (q.packed k)
        ∙ by_bits (chunk (64 * k) 64 a) (chunk (64 * k) 64 b) chunks (chunk_short (64 * k) a) ∙ ap mask_l (sym (chunk-zip2 bit (64 * k) 64 a b f));
  }

-- two rows of one length have as many words
pub same_word_count : (vs ws : List ℕ) (a b : List Bool) → length a ≡ length b → IsPacked vs a → IsPacked ws b → length vs ≡ length ws
same_word_count vs ws a b e p q = omega (arith, p.enough, p.fewest, q.enough, q.fewest)

-- equal rows have equal words
pub words_of_same : (vs ws : List ℕ) (a b : List Bool) → a ≡ b → IsPacked vs a → IsPacked ws b → vs ≡ ws
words_of_same vs ws a b e p q =
    ext_get_or 0 vs ws (same_word_count vs ws a b (ap length e) p q) (λ k l. p.packed k ∙ ap (λ r. mask_l (chunk (64 * k) 64 r)) e ∙ sym (q.packed k))

-- equal words hold equal rows
pub rows_of_same : (vs ws : List ℕ) (a b : List Bool) → length a ≡ length b → vs ≡ ws → IsPacked vs a → IsPacked ws b → a ≡ b
rows_of_same vs ws a b e same p q = sym (row_is (length a) vs a refl p) ∙ ap (row_of (length a)) same ∙ row_is (length a) ws b (sym e) q

-- how many bits of the first k words are set, and how many of their places are true
count_below : (ws : List ℕ) (row : List Bool) → IsPacked ws row → (k : ℕ) → k ≤ length ws → sum_by count_ones (take k ws) ≡ count_by (λ x. x) (take (64 * k) row)
count_below ws row p zero l = refl
count_below ws row p (suc k) l =
    let a : sum_by count_ones (take (k + 1) ws) ≡ sum_by count_ones (take k ws) + count_ones (get_or ws k 0) = sum_by_more count_ones ws k 0 (omega arith) in
    let b : count_ones (get_or ws k 0) ≡ count_by (λ x. x) (chunk (64 * k) 64 row) =
    ap count_ones (p.packed k) ∙ ap (λ l. count_ones (mask_l l)) (sym (map-id (chunk (64 * k) 64 row))) ∙ ones-mask_l (λ x. x) (chunk (64 * k) 64 row) in
    let places : 64 * suc k ≡ 64 * k + 64 = omega arith in
    let c : take (64 * suc k) row ≡ take (64 * k) row ++ chunk (64 * k) 64 row = ap (λ n. take n row) places ∙ take-add (64 * k) 64 row in
    let d : count_by (λ x. x) (take (64 * suc k) row) ≡ count_by (λ x. x) (take (64 * k) row) + count_by (λ x. x) (chunk (64 * k) 64 row) =
    ap (count_by (λ x. x)) c ∙ sum_by-append (λ x. cond x 1 0) (take (64 * k) row) (chunk (64 * k) 64 row) in
    let next : suc k ≡ k + 1 = omega arith in
    let e : sum_by count_ones (take (suc k) ws) ≡ sum_by count_ones (take (k + 1) ws) = ap (λ n. sum_by count_ones (take n ws)) next in
    let before = count_below ws row p k (omega arith) in
    omega arith

pub count_of_packed : (ws : List ℕ) (row : List Bool) → IsPacked ws row → sum_by count_ones ws ≡ count_by (λ x. x) row
count_of_packed ws row p =
    ap (sum_by count_ones) (sym (take_all (length ws) ws (omega arith))) ∙ count_below ws row p (length ws) (omega arith)
    ∙ ap (count_by (λ x. x)) (take_all (64 * length ws) row p.enough)

bit_from_true : (b : Bool) → bit_of b ≡ 1 → b ≡ true
bit_from_true true e = refl
bit_from_true false e = absurd (omega arith)

false_from_bit : (b : Bool) → bit_of b ≡ 0 → b ≡ false
false_from_bit true e = absurd (omega arith)
false_from_bit false e = refl

-- the bit of a place
bit_of_place : (ws : List ℕ) (row : List Bool) → IsPacked ws row → (at : ℕ) → bit_at (get_or ws (at / 64) 0) (at % 64) ≡ cond (get_or row at false) 1 0
bit_of_place ws row p at =
    let place : 64 * (at / 64) + at % 64 ≡ at = omega arith in
    bit_of_word ws row p (at / 64) (at % 64) (omega arith) ∙ ap (λ j. cond (get_or row j false) 1 0) place

pub true_from_bit : (ws : List ℕ) (row : List Bool) → IsPacked ws row → (k i : ℕ) → i < 64 → bit_at (get_or ws k 0) i ≡ 1 → get_or row (64 * k + i) false ≡ true
true_from_bit ws row p k i l e = bit_from_true _ (sym (bit_of_word ws row p k i l) ∙ e)

pub false_from_no_bit : (ws : List ℕ) (row : List Bool) → IsPacked ws row → (k i : ℕ) → i < 64 → bit_at (get_or ws k 0) i ≡ 0 → get_or row (64 * k + i) false ≡ false
false_from_no_bit ws row p k i l e = false_from_bit _ (sym (bit_of_word ws row p k i l) ∙ e)

-- the first row is within the second where its words are
pub subset_from_words : (vs ws : List ℕ) (a b : List Bool) → IsPacked vs a → IsPacked ws b → ((k : ℕ) → bit_and (get_or vs k 0) (get_or ws k 0) ≡ get_or vs k 0) → IsSubset a b
subset_from_words vs ws a b p q within at is_true =
    let k = at / 64 in
    let i = at % 64 in
    let own : bit_at (get_or vs k 0) i ≡ 1 = bit_of_place vs a p at ∙ ap (λ t. cond t 1 0) is_true in
    let both : bit_at (get_or vs k 0) i ≡ min (bit_at (get_or vs k 0) i) (bit_at (get_or ws k 0) i) =
    ap (λ w. bit_at w i) (sym (within k)) ∙ bit_at_and (get_or vs k 0) (get_or ws k 0) i in
    let other : cond (get_or b at false) 1 0 ≡ bit_at (get_or ws k 0) i = sym (bit_of_place ws b q at) in
    bit_from_true _ (other ∙ omega (arith, bit_at-lt (get_or ws k 0) i))

least_bit : (x y : Bool) → (x ≡ true → y ≡ true) → min (cond x 1 0) (cond y 1 0) ≡ cond x 1 0
least_bit true y h = ap (λ t. min 1 (cond t 1 0)) (h refl)
least_bit false y h = omega arith

pub words_from_subset : (vs ws : List ℕ) (a b : List Bool) → IsPacked vs a → IsPacked ws b → IsSubset a b → (k : ℕ) → bit_and (get_or vs k 0) (get_or ws k 0) ≡ get_or vs k 0
words_from_subset vs ws a b p q subset k =
    let v = get_or vs k 0 in
    let w = get_or ws k 0 in
    same_from_bits_below 64 (bit_and v w) v (omega (arith, and_le_l v w, word_below vs a p k)) (word_below vs a p k) (λ i l.
    let e : bit_at v i ≡ cond (get_or a (64 * k + i) false) 1 0 = bit_of_word vs a p k i l in
    let f : bit_at w i ≡ cond (get_or b (64 * k + i) false) 1 0 = bit_of_word ws b q k i l in
    bit_at_and v w i ∙ rw (e, f) (least_bit _ _ (subset (64 * k + i))))

-- what the fields of a row say of the list that a contract sees
module _ (n : ℕ) (ws : List ℕ) (row : List Bool) (seen : row_of n ws ≡ row) where
  pub row_len : length row ≡ n
  row_len = sym (ap length seen) ∙ length-row_of n ws

  pub packed_row : IsPacked ws (row_of n ws) → IsPacked ws row
  packed_row p = subst (λ (r : List Bool). IsPacked ws r) seen p

  -- the same of a slice of the words
  pub packed_slice : (s : List ℕ) → s ≡ ws → IsPacked ws (row_of n ws) → IsPacked s row
  packed_slice s e p = subst (λ (l : List ℕ). IsPacked l row) (sym e) (packed_row p)

  pub place_value : (at : ℕ) → at < n → eqb (bit_at (get_or ws (at / 64) 0) (at % 64)) 1 ≡ get_or row at false
  place_value at l = sym (get_or-row_of n ws at l) ∙ ap (λ r. get_or r at false) seen

-- the words hold the row
pub record Holds (n : ℕ) (ws : List ℕ) (row : List Bool) : Type 0 where
  pub packed : (n < 2 ^ 32) × IsPacked ws (row_of n ws)
  pub row_is : row_of n ws ≡ row

pub holds : (n : ℕ) (vs ws : List ℕ) (row : List Bool) → n < 2 ^ 32 → vs ≡ ws → length row ≡ n → IsPacked ws row → Holds n vs row
holds n vs ws row short same e p =
    let q : IsPacked vs row = subst (λ (l : List ℕ). IsPacked l row) (sym same) p in
    record { packed = (short, packed_view n vs row e q); row_is = row_is n vs row e q }

-- the row changes where the words do
pub changed_rows : (b : Bool) (vs ws : List ℕ) (a r : List Bool) → length r ≡ length a → IsPacked vs a → IsPacked ws r → MatchBool b (ws ≢ vs) (ws ≡ vs) → MatchBool b (r ≢ a) (r ≡ a)
changed_rows true vs ws a r e p q h = λ same. h (words_of_same ws vs r a same q p)
changed_rows false vs ws a r e p q h = rows_of_same ws vs r a e h q p
