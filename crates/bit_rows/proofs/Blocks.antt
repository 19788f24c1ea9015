-- Blocks of words, as the lanes of a vector, within a list of words.
use Rattle.std.proofs.Common.{◌≡◌, ◌≢◌, ℕ, zero, suc, ◌+◌, ◌-◌, ◌<◌, ◌≤◌, ◌↔◌, Bool, true, false, not, ◌||◌, eqb, List, [], ◌∷◌, length, get_or, set, map, refl, sym, subst, ap, ◌∙◌, inl, inr, arith, bit_or, bit_xor, eq-eqb}
use Rattle.std.specs.Bool.{MatchBool}
use Rattle.std.specs.Simd.Lanes.{zip2, chunk, put_chunk, fold_l}
use Rattle.std.proofs.lemmas.Bool.{cases_lt, cases_eq, ne_eqb, true≢false}
use Rattle.std.proofs.lemmas.List.{length-set, set-get_or, get_or-set_same, get_or-set_other, get_or_past, ext_get_or}
use Rattle.std.proofs.lemmas.Nat.{le_or_l, le_or_r, and_le_l, and_le_r}
use lib.Bits.{xor_add_and, xor_self}
use Rattle.std.proofs.lemmas.Simd.{length-zip2, length-chunk, length-put_chunk, get_or-zip2, get_or-chunk, get_or-put_chunk_below, get_or-put_chunk_at, get_or-put_chunk_above}
use Rattle.bit_rows.specs.Words.{AreZero, GivesNone, IsCombined}

pub zip2-map_right : {X Y V Z : Type 0} (f : X → Y → Z) (g : V → Y) (xs : List X) (vs : List V) → zip2 f xs (map g vs) ≡ zip2 (λ x v. f x (g v)) xs vs
zip2-map_right f g [] vs = refl
zip2-map_right f g (x ∷ xs) [] = refl
zip2-map_right f g (x ∷ xs) (v ∷ vs) = ap (λ l. f x (g v) ∷ l) (zip2-map_right f g xs vs)

AreZero-cons : (x : ℕ) (xs : List ℕ) → x ≡ 0 → AreZero xs → AreZero (x ∷ xs)
AreZero-cons x xs e h zero = e
AreZero-cons x xs e h (suc k) = h k

AreZero-tail : (x : ℕ) (xs : List ℕ) → AreZero (x ∷ xs) → AreZero xs
AreZero-tail x xs h k = h (suc k)

AreZero-nil : AreZero []
AreZero-nil k = refl

pub zero_from_fold : (a : ℕ) (xs : List ℕ) → fold_l bit_or a xs ≡ 0 → (a ≡ 0) × AreZero xs
zero_from_fold a [] e = (e, AreZero-nil)
zero_from_fold a (x ∷ xs) e =
    let r = zero_from_fold (bit_or a x) xs e in
    (omega (arith, le_or_l a x, r.0), AreZero-cons x xs (omega (arith, le_or_r a x, r.0)) r.1)

or_zero : (a b : ℕ) → a ≡ 0 → b ≡ 0 → bit_or a b ≡ 0
or_zero a b e f = rw (e, f) refl

pub fold_from_zero : (a : ℕ) (xs : List ℕ) → a ≡ 0 → AreZero xs → fold_l bit_or a xs ≡ 0
fold_from_zero a [] e h = e
fold_from_zero a (x ∷ xs) e h = fold_from_zero (bit_or a x) xs (or_zero a x e (h 0)) (AreZero-tail x xs h)

-- a number is 0 where the test says so
pub zero_from_test : (n : ℕ) → not (eqb n 0) ≡ false → n ≡ 0
zero_from_test n e = elim (cases_eq n 0) [ inl z ↦ z | inr p ↦ absurd (true≢false (sym (ap not (ne_eqb n 0 p)) ∙ e)) ]

pub test_from_zero : (n : ℕ) → n ≡ 0 → not (eqb n 0) ≡ false
test_from_zero n e = ap not (eq-eqb n 0 e)

pub xor_zero : (a b : ℕ) → bit_xor a b ≡ 0 → b ≡ a
xor_zero a b e = omega (arith, xor_add_and a b, and_le_l a b, and_le_r a b)

-- no bit has changed so far where none had changed before and the block is the same
pub no_changes : (cs os ns : List ℕ) → length cs ≡ length os → length os ≡ length ns → AreZero (zip2 bit_or cs (zip2 bit_xor os ns)) → AreZero cs × (ns ≡ os)
no_changes [] [] [] p q h = (AreZero-nil, refl)
no_changes [] [] (n ∷ ns) p q h = absurd (omega arith)
no_changes [] (o ∷ os) ns p q h = absurd (omega arith)
no_changes (c ∷ cs) [] ns p q h = absurd (omega arith)
no_changes (c ∷ cs) (o ∷ os) [] p q h = absurd (omega arith)
no_changes (c ∷ cs) (o ∷ os) (n ∷ ns) p q h =
    let r = no_changes cs os ns (omega arith) (omega arith) (AreZero-tail _ _ h) in
    let same : n ≡ o = xor_zero o n (omega (arith, le_or_r c (bit_xor o n), h 0)) in
    (AreZero-cons c cs (omega (arith, le_or_l c (bit_xor o n), h 0)) r.0, cc)

pub still_no_changes : (cs os ns : List ℕ) → AreZero cs → ns ≡ os → AreZero (zip2 bit_or cs (zip2 bit_xor os ns))
still_no_changes cs os ns h e = rw e (each cs os h) where
  each : (cs os : List ℕ) → AreZero cs → AreZero (zip2 bit_or cs (zip2 bit_xor os os))
  each [] os h = AreZero-nil
  each (c ∷ cs) [] h = AreZero-nil
  each (c ∷ cs) (o ∷ os) h = AreZero-cons _ _ (or_zero c (bit_xor o o) (h 0) (xor_self o)) (each cs os (AreZero-tail c cs h))

-- a block that is written with what it held leaves the list as it was, and only such a block
pub block_of_same : (at : ℕ) (xs ys : List ℕ) → length ys ≡ 8 → at + 8 ≤ length xs → put_chunk at xs ys ≡ xs → ys ≡ chunk at 8 xs
block_of_same at xs ys long room e =
    ext_get_or 0 ys (chunk at 8 xs) (omega (arith, length-chunk at 8 xs room)) (λ j l.
    sym (get_or-put_chunk_at at xs ys j 0 l (omega arith)) ∙ ap (λ zs. get_or zs (at + j) 0) e ∙ sym (get_or-chunk at 8 xs j 0 (omega arith)))

pub same_from_block : (at : ℕ) (xs ys : List ℕ) → length ys ≡ 8 → at + 8 ≤ length xs → ys ≡ chunk at 8 xs → put_chunk at xs ys ≡ xs
same_from_block at xs ys long room e =
    ext_get_or 0 (put_chunk at xs ys) xs (length-put_chunk at xs ys) (λ k l.
    elim (cases_lt k at) [
      | inl below ↦ get_or-put_chunk_below at xs ys k 0 below
      | inr from ↦ elim (cases_lt k (at + 8)) [
        | inl within ↦
            let place : at + (k - at) ≡ k = omega arith in
            ap (λ i. get_or (put_chunk at xs ys) i 0) (sym place) ∙ get_or-put_chunk_at at xs ys (k - at) 0 (omega arith) (omega arith)
            ∙ ap (λ zs. get_or zs (k - at) 0) e ∙ get_or-chunk at 8 xs (k - at) 0 (omega arith) ∙ ap (λ i. get_or xs i 0) place
        | inr above ↦ get_or-put_chunk_above at xs ys k 0 (omega arith)
      ]
    ])

module _ (word : ℕ → ℕ → ℕ) where
  pub combined_block : (old other lanes : List ℕ) (at : ℕ) → at + 8 ≤ length old → length old ≡ length other → lanes ≡ zip2 word (chunk at 8 old) (chunk at 8 other)
      → IsCombined word old other (put_chunk at old lanes) at (at + 8)
  combined_block old other lanes at room e is =
      let a = length-chunk at 8 old room in
      let b = length-chunk at 8 other (omega arith) in
      let long : length lanes ≡ 8 = ap length is ∙ length-zip2 word (chunk at 8 old) (chunk at 8 other) (a ∙ sym b) ∙ a in
      record {
        len = length-put_chunk at old lanes;
        inside = λ k low high.
            let place : at + (k - at) ≡ k = omega arith in
            let j : k - at < 8 = omega arith in
            ap (λ i. get_or (put_chunk at old lanes) i 0) (sym place) ∙ get_or-put_chunk_at at old lanes (k - at) 0 (omega arith) (omega arith)
            ∙ ap (λ zs. get_or zs (k - at) 0) is ∙ get_or-zip2 word (chunk at 8 old) (chunk at 8 other) (k - at) 0 0 0 (omega arith) (omega arith)
            ∙ ap (λ x. word x (get_or (chunk at 8 other) (k - at) 0)) (get_or-chunk at 8 old (k - at) 0 j ∙ ap (λ i. get_or old i 0) place)
            ∙ ap (word (get_or old k 0)) (get_or-chunk at 8 other (k - at) 0 j ∙ ap (λ i. get_or other i 0) place);
        below = λ k l. get_or-put_chunk_below at old lanes k 0 l;
        above = λ k l. get_or-put_chunk_above at old lanes k 0 (omega arith);
      }

  pub combined_one : (old other : List ℕ) (at : ℕ) → at < length old → IsCombined word old other (set old at (word (get_or old at 0) (get_or other at 0))) at (at + 1)
  combined_one old other at l = record {
    len = length-set old at _;
    inside = λ k low high. let e : k ≡ at = omega arith in rw (e, get_or-set_same old at (word (get_or old at 0) (get_or other at 0)) 0 l) refl;
    below = λ k h. get_or-set_other old at k _ 0 (λ e. absurd (omega arith));
    above = λ k h. get_or-set_other old at k _ 0 (λ e. absurd (omega arith));
  }

  pub combined_none : (old other : List ℕ) (at : ℕ) → IsCombined word old other old at at
  combined_none old other at = record {
    len = refl;
    inside = λ k low high. absurd (omega arith);
    below = λ k h. refl;
    above = λ k h. refl;
  }

  -- one stretch after another
  pub combined_more : (old other mid new : List ℕ) (start at end : ℕ) → start ≤ at → at ≤ end → IsCombined word old other mid start at → IsCombined word mid other new at end
      → IsCombined word old other new start end
  combined_more old other mid new start at end low high p q = record {
    len = q.len ∙ p.len;
    inside = λ k a b. elim (cases_lt k at) [
      | inl l ↦ q.below k l ∙ p.inside k a l
      | inr g ↦ q.inside k g b ∙ ap (λ x. word x (get_or other k 0)) (p.above k g)
    ];
    below = λ k l. q.below k (omega arith) ∙ p.below k l;
    above = λ k l. q.above k l ∙ p.above k (omega arith);
  }

  -- what is unchanged at the end was unchanged before the last stretch
  pub unchanged_before : (old other mid new : List ℕ) (start at end : ℕ) → IsCombined word old other mid start at → IsCombined word mid other new at end → new ≡ old → mid ≡ old
  unchanged_before old other mid new start at end p q e =
      ext_get_or 0 mid old p.len (λ k l. elim (cases_lt k at) [
        | inl b ↦ sym (q.below k b) ∙ ap (λ xs. get_or xs k 0) e
        | inr g ↦ p.above k g
      ])

  pub combined_all : (old other new : List ℕ) → length old ≡ length other → IsCombined word old other new 0 (length old) → new ≡ zip2 word old other
  combined_all old other new e p =
      ext_get_or 0 new (zip2 word old other) (p.len ∙ sym (length-zip2 word old other e)) (λ k l.
      let within : k < length old = omega (arith, p.len) in
      p.inside k (omega arith) within ∙ sym (get_or-zip2 word old other k 0 0 0 within (omega arith)))

pub changed_in_either : (x y : Bool) (old mid new : List ℕ) → MatchBool x (mid ≢ old) (mid ≡ old) → MatchBool y (new ≢ mid) (new ≡ mid) → (new ≡ old → mid ≡ old)
    → MatchBool (x || y) (new ≢ old) (new ≡ old)
changed_in_either true y old mid new p q back = λ e. p (back e)
changed_in_either false true old mid new p q back = λ e. q (e ∙ sym p)
changed_in_either false false old mid new p q back = q ∙ p

-- one block: what it held, what the others hold there, and what is written
module _ (word : ℕ → ℕ → ℕ) (old other cs os bs lanes : List ℕ) (at : ℕ) (room : at + 8 ≤ length old) (even : length old ≡ length other) (long : length cs ≡ 8)
    (held : os ≡ chunk at 8 old) (others : bs ≡ chunk at 8 other) (written : lanes ≡ zip2 word os bs) where
  os_len : length os ≡ 8
  os_len = ap length held ∙ length-chunk at 8 old room

  lanes_len : length lanes ≡ 8
  lanes_len =
      let b : length bs ≡ 8 = ap length others ∙ length-chunk at 8 other (omega arith) in
      ap length written ∙ length-zip2 word os bs (os_len ∙ sym b) ∙ os_len

  pub written_block : IsCombined word old other (put_chunk at old lanes) at (at + 8)
  written_block = combined_block word old other lanes at room even (written ∙ ap (λ l. zip2 word l bs) held ∙ ap (zip2 word (chunk at 8 old)) others)

  pub changes_len : length (zip2 bit_or cs (zip2 bit_xor os lanes)) ≡ 8
  changes_len =
      let a = length-zip2 bit_xor os lanes (os_len ∙ sym lanes_len) in
      length-zip2 bit_or cs (zip2 bit_xor os lanes) (long ∙ sym (a ∙ os_len)) ∙ long

  pub changes_is : AreZero (zip2 bit_or cs (zip2 bit_xor os lanes)) ↔ (AreZero cs × (put_chunk at old lanes ≡ old))
  changes_is = (
    λ h. let r = no_changes cs os lanes (long ∙ sym os_len) (os_len ∙ sym lanes_len) h in (r.0, same_from_block at old lanes lanes_len room (r.1 ∙ held)),
    λ h. still_no_changes cs os lanes h.0 (block_of_same at old lanes lanes_len room h.1 ∙ sym held),
  )

-- one word: what is written, and whether a bit has changed so far
module _ (word : ℕ → ℕ → ℕ) (old other mid : List ℕ) (start at changes new : ℕ) (low : start ≤ at) (within : at < length mid)
    (before : IsCombined word old other mid start at) (written : new ≡ word (get_or mid at 0) (get_or other at 0)) where
  one_word : IsCombined word mid other (set mid at new) at (at + 1)
  one_word = rw written (combined_one word mid other at within)

  pub written_word : IsCombined word old other (set mid at new) start (at + 1)
  written_word = combined_more word old other mid (set mid at new) start at (at + 1) low (omega arith) before one_word

  pub changes_of_word : ((changes ≡ 0) ↔ (mid ≡ old)) → (bit_or changes (bit_xor (get_or mid at 0) new) ≡ 0) ↔ (set mid at new ≡ old)
  changes_of_word so_far =
      let was = get_or mid at 0 in (
        λ h.
            let same : new ≡ was = xor_zero was new (omega (arith, le_or_r changes (bit_xor was new), h)) in
            ap (set mid at) same ∙ set-get_or mid at 0 ∙ so_far.0 (omega (arith, le_or_l changes (bit_xor was new), h)),
        λ e.
            let back : mid ≡ old = unchanged_before word old other mid (set mid at new) start at (at + 1) before one_word e in
            let same : new ≡ was = sym (get_or-set_same mid at new 0 within) ∙ ap (λ l. get_or l at 0) (e ∙ sym back) in
            or_zero changes (bit_xor was new) (so_far.1 back) (ap (bit_xor was) same ∙ xor_self was),
      )

-- the blocks and then the rest
pub both_parts : (word : ℕ → ℕ → ℕ) (old other mid new : List ℕ) (whole : ℕ) → length old ≡ length other → whole ≤ length old → IsCombined word old other mid 0 whole
    → IsCombined word mid other new whole (length mid) → new ≡ zip2 word old other
both_parts word old other mid new whole e low p q =
    combined_all word old other new e (subst (λ (n : ℕ). IsCombined word old other new 0 n) p.len (combined_more word old other mid new 0 whole (length mid) (omega arith) (omega (arith, p.len)) p q))

-- the operation on the lanes of one block
module _ (word : ℕ → ℕ → ℕ) (xs ys own others lanes : List ℕ) (at : ℕ) (room : at + 8 ≤ length xs) (even : length xs ≡ length ys)
    (held : own ≡ chunk at 8 xs) (other : others ≡ chunk at 8 ys) (made : lanes ≡ zip2 word own others) where
  lane : (j : ℕ) → j < 8 → get_or lanes j 0 ≡ word (get_or xs (at + j) 0) (get_or ys (at + j) 0)
  lane j l =
      let a = length-chunk at 8 xs room in
      let b = length-chunk at 8 ys (omega arith) in
      ap (λ l. get_or l j 0) made ∙ ap (λ l. get_or (zip2 word l others) j 0) held ∙ ap (λ l. get_or (zip2 word (chunk at 8 xs) l) j 0) other
      ∙ get_or-zip2 word (chunk at 8 xs) (chunk at 8 ys) j 0 0 0 (omega arith) (omega arith) ∙ ap (λ x. word x (get_or (chunk at 8 ys) j 0)) (get_or-chunk at 8 xs j 0 l)
      ∙ ap (word (get_or xs (at + j) 0)) (get_or-chunk at 8 ys j 0 l)

  pub none_in_block : AreZero lanes → GivesNone word xs ys at (at + 8)
  none_in_block h k low high =
      let place : at + (k - at) ≡ k = omega arith in
      ap (λ i. word (get_or xs i 0) (get_or ys i 0)) (sym place) ∙ sym (lane (k - at) (omega arith)) ∙ h (k - at)

  pub zero_from_none : GivesNone word xs ys at (at + 8) → AreZero lanes
  zero_from_none none j = elim (cases_lt j 8) [
    | inl l ↦ lane j l ∙ none (at + j) (omega arith) (omega arith)
    | inr g ↦
        let a = length-chunk at 8 xs room in
        let b = length-chunk at 8 ys (omega arith) in
        let long : length lanes ≡ 8 = ap length (made ∙ ap (λ l. zip2 word l others) held ∙ ap (zip2 word (chunk at 8 xs)) other) ∙ length-zip2 word (chunk at 8 xs) (chunk at 8 ys) (a ∙ sym b) ∙ a in
        get_or_past lanes j 0 (omega arith)
  ]

pub none_more : (word : ℕ → ℕ → ℕ) (xs ys : List ℕ) (start at end : ℕ) → GivesNone word xs ys start at → GivesNone word xs ys at end → GivesNone word xs ys start end
none_more word xs ys start at end p q k low high = elim (cases_lt k at) [ inl l ↦ p k low l | inr g ↦ q k g high ]

pub changed_before : (x : Bool) (old mid new : List ℕ) → x ≡ true → MatchBool x (mid ≢ old) (mid ≡ old) → (new ≡ old → mid ≡ old) → MatchBool x (new ≢ old) (new ≡ old)
changed_before true old mid new t p back = λ e. p (back e)
changed_before false old mid new t p back = absurd (cc)
