-- The bytes that the table of RFC 3629 allows are those of a character.
use Rattle.std.proofs.Common.{◌≡◌, ◌∙◌, ℕ, ◌+◌, ◌-◌, ◌*◌, ◌/◌, ◌%◌, ◌≤◌, ◌<◌, Bool, true, false, cond, ◌⊎◌, inl, inr, List, [], ◌∷◌, Option, Some, refl, ap, sym, subst, arith, ◌==◌, nat_lt, nat_le, lit≤}
use Rattle.std.specs.Char.{encode_utf8}
use Rattle.std.specs.Str.{IsUtf8}
use Rattle.std.proofs.lemmas.Bool.{eqb-true, cond-true, cond-false, ltb-false, lt-ltb, le-ltb, cases_lt}
use Rattle.std.proofs.lemmas.Bool.Decides.{nat_tests}
use Rattle.std.proofs.lemmas.Str.{IsUtf8-encode, encode_ascii}
use lib.Utf8.{scalar, low_scalar}
use Rattle.json_order.specs.Grammar.{Tails, tails, tails_of, AreTails, character}
use Rattle.json_order.proofs.Tests.{tested}

is_scalar : (c : ℕ) → c < 55296 ⊎ ((57344 ≤ c) × (c < 1114112)) → scalar c ≡ true
is_scalar c (inl low) = low_scalar c low
is_scalar c (inr (above, below)) = grind (arith, nat_tests)

pub IsUtf8-ascii : (b : ℕ) → b < 128 → IsUtf8 (b ∷ [])
IsUtf8-ascii b h = subst (λ (w : List ℕ). IsUtf8 w) (encode_ascii b h) (IsUtf8-encode b (is_scalar b (inl (omega arith))))

pub IsUtf8-character : (c : ℕ) → IsUtf8 (character c)
IsUtf8-character c = go (scalar c) refl
  where
    go : (v : Bool) → scalar c ≡ v → IsUtf8 (cond v (encode_utf8 c) (encode_utf8 0xFFFD))
    go true e = IsUtf8-encode c e
    go false e = IsUtf8-encode 0xFFFD refl

two : (h l : ℕ) → 2 ≤ h → h < 32 → l < 64 → encode_utf8 (h * 64 + l) ≡ (192 + h) ∷ ((128 + l) ∷ [])
unfolding encode_utf8
two h l a b c =
    let n : ℕ = h * 64 + l in
    let one : nat_lt n 128 ≡ false = le-ltb n 128 (omega arith) in
    let more : nat_lt n 2048 ≡ true = lt-ltb n 2048 (omega arith) in
    let first : 192 + n / 64 ≡ 192 + h = omega arith in
    let second : 128 + n % 64 ≡ 128 + l = omega arith in
    cond-false (nat_lt n 128) _ _ one ∙ (cond-true (nat_lt n 2048) _ _ more
    ∙ (ap (λ (x : ℕ). x ∷ ((128 + n % 64) ∷ [])) first ∙ ap (λ (x : ℕ). (192 + h) ∷ (x ∷ [])) second))

three : (h m l : ℕ) → h < 16 → m < 64 → l < 64 → 2048 ≤ (h * 64 + m) * 64 + l → encode_utf8 ((h * 64 + m) * 64 + l) ≡ (224 + h) ∷ ((128 + m) ∷ ((128 + l) ∷ []))
unfolding encode_utf8
three h m l a b c d =
    let n : ℕ = (h * 64 + m) * 64 + l in
    let one : nat_lt n 128 ≡ false = le-ltb n 128 (omega arith) in
    let more : nat_lt n 2048 ≡ false = le-ltb n 2048 d in
    let most : nat_lt n 65536 ≡ true = lt-ltb n 65536 (omega arith) in
    let first : 224 + n / 4096 ≡ 224 + h = omega arith in
    let second : 128 + (n / 64) % 64 ≡ 128 + m = omega arith in
    let third : 128 + n % 64 ≡ 128 + l = omega arith in
    cond-false (nat_lt n 128) _ _ one ∙ (cond-false (nat_lt n 2048) _ _ more ∙ (cond-true (nat_lt n 65536) _ _ most
    ∙ (ap (λ (x : ℕ). x ∷ ((128 + (n / 64) % 64) ∷ ((128 + n % 64) ∷ []))) first
    ∙ (ap (λ (x : ℕ). (224 + h) ∷ (x ∷ ((128 + n % 64) ∷ []))) second ∙ ap (λ (x : ℕ). (224 + h) ∷ ((128 + m) ∷ (x ∷ []))) third))))

four : (h m k l : ℕ) → m < 64 → k < 64 → l < 64 → 65536 ≤ ((h * 64 + m) * 64 + k) * 64 + l
    → encode_utf8 (((h * 64 + m) * 64 + k) * 64 + l) ≡ (240 + h) ∷ ((128 + m) ∷ ((128 + k) ∷ ((128 + l) ∷ [])))
unfolding encode_utf8
four h m k l a b c d =
    let n : ℕ = ((h * 64 + m) * 64 + k) * 64 + l in
    let one : nat_lt n 128 ≡ false = le-ltb n 128 (omega arith) in
    let more : nat_lt n 2048 ≡ false = le-ltb n 2048 (omega arith) in
    let most : nat_lt n 65536 ≡ false = le-ltb n 65536 d in
    let first : 240 + n / 262144 ≡ 240 + h = omega arith in
    let second : 128 + (n / 4096) % 64 ≡ 128 + m = omega arith in
    let third : 128 + (n / 64) % 64 ≡ 128 + k = omega arith in
    let fourth : 128 + n % 64 ≡ 128 + l = omega arith in
    cond-false (nat_lt n 128) _ _ one ∙ (cond-false (nat_lt n 2048) _ _ more ∙ (cond-false (nat_lt n 65536) _ _ most
    ∙ (ap (λ (x : ℕ). x ∷ ((128 + (n / 4096) % 64) ∷ ((128 + (n / 64) % 64) ∷ ((128 + n % 64) ∷ [])))) first
    ∙ (ap (λ (x : ℕ). (240 + h) ∷ (x ∷ ((128 + (n / 64) % 64) ∷ ((128 + n % 64) ∷ [])))) second
    ∙ (ap (λ (x : ℕ). (240 + h) ∷ ((128 + m) ∷ (x ∷ ((128 + n % 64) ∷ [])))) third
    ∙ ap (λ (x : ℕ). (240 + h) ∷ ((128 + m) ∷ ((128 + k) ∷ (x ∷ [])))) fourth)))))

utf8_two : (b x : ℕ) → 194 ≤ b → b ≤ 223 → 128 ≤ x → x ≤ 191 → IsUtf8 (b ∷ (x ∷ []))
utf8_two b x p q r s =
    let h : ℕ = b - 192 in
    let l : ℕ = x - 128 in
    let e : 192 + h ≡ b = omega arith in
    let f : 128 + l ≡ x = omega arith in
    let same : encode_utf8 (h * 64 + l) ≡ b ∷ (x ∷ []) = two h l (omega arith) (omega arith) (omega arith) ∙ (ap (λ (y : ℕ). y ∷ ((128 + l) ∷ [])) e ∙ ap (λ (y : ℕ). b ∷ (y ∷ [])) f) in
    subst (λ (w : List ℕ). IsUtf8 w) same (IsUtf8-encode (h * 64 + l) (is_scalar (h * 64 + l) (inl (omega arith))))

-- with a second byte of at most 159 it is no surrogate
low_second : (b x h m l : ℕ) → 224 + h ≡ b → 128 + m ≡ x → x ≤ 159 → b ≤ 239 → l < 64
    → (h * 64 + m) * 64 + l < 55296 ⊎ ((57344 ≤ (h * 64 + m) * 64 + l) × ((h * 64 + m) * 64 + l < 1114112))
low_second b x h m l e f low most last = elim (cases_lt b 238) [ inl k ↦ inl (omega arith) | inr k ↦ inr (omega arith, omega arith) ]

utf8_three : (b x y : ℕ) → 224 ≤ b → b ≤ 239 → 128 ≤ x → x ≤ 191 → 128 ≤ y → y ≤ 191 → (160 ≤ x) ⊎ (225 ≤ b) → (x ≤ 159) ⊎ ((b ≤ 236) ⊎ (238 ≤ b)) → IsUtf8 (b ∷ (x ∷ (y ∷ [])))
utf8_three b x y p q r s u v w z =
    let h : ℕ = b - 224 in
    let m : ℕ = x - 128 in
    let l : ℕ = y - 128 in
    let e : 224 + h ≡ b = omega arith in
    let f : 128 + m ≡ x = omega arith in
    let g : 128 + l ≡ y = omega arith in
    let n : ℕ = (h * 64 + m) * 64 + l in
    let least : 2048 ≤ n = elim w [ inl k ↦ omega arith | inr k ↦ omega arith ] in
    let range : n < 55296 ⊎ ((57344 ≤ n) × (n < 1114112))
    = elim z [ inl k ↦ low_second b x h m l e f k q (omega arith) | inr k ↦ elim k [ inl i ↦ inl (omega arith) | inr i ↦ inr (omega arith, omega arith) ] ] in
    let same : encode_utf8 n ≡ b ∷ (x ∷ (y ∷ [])) = three h m l (omega arith) (omega arith) (omega arith) least
    ∙ (ap (λ (c : ℕ). c ∷ ((128 + m) ∷ ((128 + l) ∷ []))) e ∙ (ap (λ (c : ℕ). b ∷ (c ∷ ((128 + l) ∷ []))) f ∙ ap (λ (c : ℕ). b ∷ (x ∷ (c ∷ []))) g)) in
    subst (λ (w : List ℕ). IsUtf8 w) same (IsUtf8-encode n (is_scalar n range))

utf8_four : (b x y z : ℕ) → 240 ≤ b → b ≤ 244 → 128 ≤ x → x ≤ 191 → 128 ≤ y → y ≤ 191 → 128 ≤ z → z ≤ 191 → (144 ≤ x) ⊎ (241 ≤ b) → (x ≤ 143) ⊎ (b ≤ 243) → IsUtf8 (b ∷ (x ∷ (y ∷ (z ∷ []))))
utf8_four b x y z p q r s u v i j o k =
    let h : ℕ = b - 240 in
    let m : ℕ = x - 128 in
    let c : ℕ = y - 128 in
    let l : ℕ = z - 128 in
    let e : 240 + h ≡ b = omega arith in
    let f : 128 + m ≡ x = omega arith in
    let g : 128 + c ≡ y = omega arith in
    let d : 128 + l ≡ z = omega arith in
    let n : ℕ = ((h * 64 + m) * 64 + c) * 64 + l in
    let least : 65536 ≤ n = elim o [ inl a ↦ omega arith | inr a ↦ omega arith ] in
    let most : n < 1114112 = elim k [ inl a ↦ omega arith | inr a ↦ omega arith ] in
    let same : encode_utf8 n ≡ b ∷ (x ∷ (y ∷ (z ∷ []))) = four h m c l (omega arith) (omega arith) (omega arith) least
    ∙ (ap (λ (a : ℕ). a ∷ ((128 + m) ∷ ((128 + c) ∷ ((128 + l) ∷ [])))) e ∙ (ap (λ (a : ℕ). b ∷ (a ∷ ((128 + c) ∷ ((128 + l) ∷ [])))) f
    ∙ (ap (λ (a : ℕ). b ∷ (x ∷ (a ∷ ((128 + l) ∷ [])))) g ∙ ap (λ (a : ℕ). b ∷ (x ∷ (y ∷ (a ∷ [])))) d))) in
    subst (λ (w : List ℕ). IsUtf8 w) same (IsUtf8-encode n (is_scalar n (inr (omega arith, most))))

-- a row of the table, and the bytes that it allows
pub record RowLaws (b : ℕ) (row : Tails) : Type 0 where
  pub some : 1 ≤ row.left
  pub room : row.low ≤ row.high
  pub utf8 : (tail : List ℕ) → AreTails row.low row.high row.left tail → IsUtf8 (b ∷ tail)

row_two : (b : ℕ) → 194 ≤ b → b ≤ 223 → RowLaws b (tails 0x80 0xBF 1)
row_two b p q = record { some = lit≤ tt; room = lit≤ tt; utf8 = go }
  where
    go : (tail : List ℕ) → AreTails 0x80 0xBF 1 tail → IsUtf8 (b ∷ tail)
    go [] h = absurd h
    go (x ∷ tail) (low, high, none) = subst (λ (w : List ℕ). IsUtf8 (b ∷ (x ∷ w))) (sym none) (utf8_two b x p q low high)

row_three : (b low high : ℕ) → 224 ≤ b → b ≤ 239 → 128 ≤ low → high ≤ 191 → low ≤ high → (160 ≤ low) ⊎ (225 ≤ b) → (high ≤ 159) ⊎ ((b ≤ 236) ⊎ (238 ≤ b)) → RowLaws b (tails low high 2)
row_three b low high p q r s u v w = record { some = lit≤ tt; room = u; utf8 = go }
  where
    go : (tail : List ℕ) → AreTails low high 2 tail → IsUtf8 (b ∷ tail)
    go [] h = absurd h
    go (x ∷ []) (above, below, never) = absurd never
    go (x ∷ (y ∷ tail)) (above, below, (low', high', none)) =
        subst (λ (w : List ℕ). IsUtf8 (b ∷ (x ∷ (y ∷ w)))) (sym none)
        (utf8_three b x y p q (omega arith) (omega arith) low' high' (elim v [ inl k ↦ inl (omega arith) | inr k ↦ inr k ]) (elim w [ inl k ↦ inl (omega arith) | inr k ↦ inr k ]))

row_four : (b low high : ℕ) → 240 ≤ b → b ≤ 244 → 128 ≤ low → high ≤ 191 → low ≤ high → (144 ≤ low) ⊎ (241 ≤ b) → (high ≤ 143) ⊎ (b ≤ 243) → RowLaws b (tails low high 3)
row_four b low high p q r s u v w = record { some = lit≤ tt; room = u; utf8 = go }
  where
    go : (tail : List ℕ) → AreTails low high 3 tail → IsUtf8 (b ∷ tail)
    go [] h = absurd h
    go (x ∷ []) (above, below, never) = absurd never
    go (x ∷ (y ∷ [])) (above, below, (low', high', never)) = absurd never
    go (x ∷ (y ∷ (z ∷ tail))) (above, below, (low', high', (low'', high'', none))) =
        subst (λ (w : List ℕ). IsUtf8 (b ∷ (x ∷ (y ∷ (z ∷ w))))) (sym none)
        (utf8_four b x y z p q (omega arith) (omega arith) low' high' low'' high'' (elim v [ inl k ↦ inl (omega arith) | inr k ↦ inr k ]) (elim w [ inl k ↦ inl (omega arith) | inr k ↦ inr k ]))

row_at : (b : ℕ) (row row' : Tails) → RowLaws b row' → Some row' ≡ Some row → RowLaws b row
row_at b row row' laws e = let same : row' ≡ row = cc in subst (λ (r : Tails). RowLaws b r) same laws

-- where a test fails, two numbers differ
differ : (a b : ℕ) → (a == b) ≡ false → a ≡ b → ⊥
differ a b e same = grind (arith, nat_tests)

above_by : (a b : ℕ) → b ≤ a → (a ≡ b → ⊥) → b + 1 ≤ a
above_by a b h never = grind arith

apart : (a b : ℕ) → (a ≡ b → ⊥) → (a + 1 ≤ b) ⊎ (b + 1 ≤ a)
apart a b never = elim (cases_lt a b) [ inl h ↦ inl (omega arith) | inr h ↦ inr (above_by a b h never) ]

within : (a b : ℕ) → nat_le a b ≡ true → a ≤ b
within a b e = grind (arith, nat_tests)

beyond : (a b : ℕ) → nat_le a b ≡ false → b < a
beyond a b e = grind (arith, nat_tests)

sides : (b : ℕ) → (b + 1 ≤ 237) ⊎ (238 ≤ b) → (b ≤ 236) ⊎ (238 ≤ b)
sides b (inl h) = inl (omega arith)
sides b (inr h) = inr h

pub row_laws : (b : ℕ) (row : Tails) → tails_of b ≡ Some row → RowLaws b row
row_laws b row e =
    let P : Option Tails → Type 0 = λ o. o ≡ Some row in
    elim (tested P (nat_lt b 0xC2) _ _ e) [
      | inl g ↦ cc
      | inr g ↦ elim (tested P (nat_le b 0xDF) _ _ g.1) [
        | inl k ↦ row_at b row _ (row_two b (ltb-false b 0xC2 g.0) (within b 0xDF k.0)) k.1
        | inr k ↦ let above : 224 ≤ b = let h : 0xDF < b = beyond b 0xDF k.0 in omega arith in
            elim (tested P (b == 0xE0) _ _ k.1) [
              | inl i ↦ let is : b ≡ 224 = eqb-true b 224 i.0 in
                  row_at b row _ (row_three b 0xA0 0xBF above (omega arith) (lit≤ tt) (lit≤ tt) (lit≤ tt) (inl (lit≤ tt)) (inr (inl (omega arith)))) i.1
              | inr i ↦ let not_first : b ≡ 224 → ⊥ = differ b 224 i.0 in
                  elim (tested P (b == 0xED) _ _ i.1) [
                    | inl j ↦ let is : b ≡ 237 = eqb-true b 237 j.0 in
                        row_at b row _ (row_three b 0x80 0x9F above (omega arith) (lit≤ tt) (lit≤ tt) (lit≤ tt) (inr (omega arith)) (inl (lit≤ tt))) j.1
                    | inr j ↦ let not_surrogate : b ≡ 237 → ⊥ = differ b 237 j.0 in
                        elim (tested P (nat_le b 0xEF) _ _ j.1) [
                          | inl l ↦ row_at b row _ (row_three b 0x80 0xBF above (within b 0xEF l.0) (lit≤ tt) (lit≤ tt) (lit≤ tt) (inr (omega (arith, above_by b 224 above not_first))) (inr (sides b (apart b 237 not_surrogate)))) l.1
                          | inr l ↦ let high : 240 ≤ b = let h : 0xEF < b = beyond b 0xEF l.0 in omega arith in
                              elim (tested P (b == 0xF0) _ _ l.1) [
                                | inl m ↦ let is : b ≡ 240 = eqb-true b 240 m.0 in
                                    row_at b row _ (row_four b 0x90 0xBF high (omega arith) (lit≤ tt) (lit≤ tt) (lit≤ tt) (inl (lit≤ tt)) (inr (omega arith))) m.1
                                | inr m ↦ let not_four : b ≡ 240 → ⊥ = differ b 240 m.0 in
                                    elim (tested P (nat_le b 0xF3) _ _ m.1) [
                                      | inl n ↦ let most : b ≤ 243 = within b 0xF3 n.0 in
                                          row_at b row _ (row_four b 0x80 0xBF high (omega arith) (lit≤ tt) (lit≤ tt) (lit≤ tt) (inr (omega (arith, above_by b 240 high not_four))) (inr most)) n.1
                                      | inr n ↦ elim (tested P (b == 0xF4) _ _ n.1) [
                                        | inl o ↦ let is : b ≡ 244 = eqb-true b 244 o.0 in
                                            row_at b row _ (row_four b 0x80 0x8F high (omega arith) (lit≤ tt) (lit≤ tt) (lit≤ tt) (inr (omega arith)) (inl (lit≤ tt))) o.1
                                        | inr o ↦ cc
                                      ]
                                    ]
                              ]
                        ]
                  ]
            ]
      ]
    ]
