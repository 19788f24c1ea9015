-- What an operation on two words does to the lists of their bits: proofs, here since an `impl` cites them.
use Rattle.std.specs.Prelude.{◌≡◌, ℕ, ◌+◌, ◌*◌, ◌^◌, ◌<◌, ◌≤◌, Bool, true, false, not, ◌&&◌, ◌||◌, List, [], ◌∷◌, length, bit_and, bit_or, bit_xor, if◌then◌else◌, refl}
use Rattle.std.specs.Int.{bit_not, w64}
use Rattle.std.specs.Simd.Lanes.{zip2, mask_l}
use Rattle.std.proofs.Common.{arith}
use Rattle.std.proofs.Math.Nat.{pow-le-pow_right}
use Rattle.std.proofs.lemmas.Nat.{or_block, and_block, xor_block, and_comm, and-not}
use Rattle.std.proofs.lemmas.Simd.{mask_l-lt}

or_step : (m n r s : ℕ) → r < 2 → s < 2 → bit_or (r + 2 * m) (s + 2 * n) ≡ bit_or r s + 2 * bit_or m n
or_step m n r s p q =
    let a : r + 2 * m ≡ m * 2 ^ 1 + r = omega arith in
    let b : s + 2 * n ≡ n * 2 ^ 1 + s = omega arith in
    rw (a, b) (omega (arith, or_block 1 m n r s p q))

and_step : (m n r s : ℕ) → r < 2 → s < 2 → bit_and (r + 2 * m) (s + 2 * n) ≡ bit_and r s + 2 * bit_and m n
and_step m n r s p q =
    let a : r + 2 * m ≡ m * 2 ^ 1 + r = omega arith in
    let b : s + 2 * n ≡ n * 2 ^ 1 + s = omega arith in
    rw (a, b) (omega (arith, and_block 1 m n r s p q))

xor_step : (m n r s : ℕ) → r < 2 → s < 2 → bit_xor (r + 2 * m) (s + 2 * n) ≡ bit_xor r s + 2 * bit_xor m n
xor_step m n r s p q =
    let a : r + 2 * m ≡ m * 2 ^ 1 + r = omega arith in
    let b : s + 2 * n ≡ n * 2 ^ 1 + s = omega arith in
    rw (a, b) (omega (arith, xor_block 1 m n r s p q))

pub or-masks : (xs ys : List Bool) → length xs ≡ length ys → length xs ≤ 64 → bit_or (mask_l xs) (mask_l ys) ≡ mask_l (zip2 (λ x y. x || y) xs ys)
or-masks [] [] e l = refl
or-masks [] (y ∷ ys) e l = absurd (omega arith)
or-masks (x ∷ xs) [] e l = absurd (omega arith)
or-masks (true ∷ xs) (true ∷ ys) e l = omega (arith, or_step (mask_l xs) (mask_l ys) 1 1 (omega arith) (omega arith), or-masks xs ys (omega arith) (omega arith))
or-masks (true ∷ xs) (false ∷ ys) e l = omega (arith, or_step (mask_l xs) (mask_l ys) 1 0 (omega arith) (omega arith), or-masks xs ys (omega arith) (omega arith))
or-masks (false ∷ xs) (true ∷ ys) e l = omega (arith, or_step (mask_l xs) (mask_l ys) 0 1 (omega arith) (omega arith), or-masks xs ys (omega arith) (omega arith))
or-masks (false ∷ xs) (false ∷ ys) e l = omega (arith, or_step (mask_l xs) (mask_l ys) 0 0 (omega arith) (omega arith), or-masks xs ys (omega arith) (omega arith))

pub and-masks : (xs ys : List Bool) → length xs ≡ length ys → length xs ≤ 64 → bit_and (mask_l xs) (mask_l ys) ≡ mask_l (zip2 (λ x y. x && y) xs ys)
and-masks [] [] e l = refl
and-masks [] (y ∷ ys) e l = absurd (omega arith)
and-masks (x ∷ xs) [] e l = absurd (omega arith)
and-masks (true ∷ xs) (true ∷ ys) e l = omega (arith, and_step (mask_l xs) (mask_l ys) 1 1 (omega arith) (omega arith), and-masks xs ys (omega arith) (omega arith))
and-masks (true ∷ xs) (false ∷ ys) e l = omega (arith, and_step (mask_l xs) (mask_l ys) 1 0 (omega arith) (omega arith), and-masks xs ys (omega arith) (omega arith))
and-masks (false ∷ xs) (true ∷ ys) e l = omega (arith, and_step (mask_l xs) (mask_l ys) 0 1 (omega arith) (omega arith), and-masks xs ys (omega arith) (omega arith))
and-masks (false ∷ xs) (false ∷ ys) e l = omega (arith, and_step (mask_l xs) (mask_l ys) 0 0 (omega arith) (omega arith), and-masks xs ys (omega arith) (omega arith))

pub xor-masks : (xs ys : List Bool) → length xs ≡ length ys → length xs ≤ 64 → bit_xor (mask_l xs) (mask_l ys) ≡ mask_l (zip2 (λ x y. if x then not y else y) xs ys)
xor-masks [] [] e l = refl
xor-masks [] (y ∷ ys) e l = absurd (omega arith)
xor-masks (x ∷ xs) [] e l = absurd (omega arith)
xor-masks (true ∷ xs) (true ∷ ys) e l = omega (arith, xor_step (mask_l xs) (mask_l ys) 1 1 (omega arith) (omega arith), xor-masks xs ys (omega arith) (omega arith))
xor-masks (true ∷ xs) (false ∷ ys) e l = omega (arith, xor_step (mask_l xs) (mask_l ys) 1 0 (omega arith) (omega arith), xor-masks xs ys (omega arith) (omega arith))
xor-masks (false ∷ xs) (true ∷ ys) e l = omega (arith, xor_step (mask_l xs) (mask_l ys) 0 1 (omega arith) (omega arith), xor-masks xs ys (omega arith) (omega arith))
xor-masks (false ∷ xs) (false ∷ ys) e l = omega (arith, xor_step (mask_l xs) (mask_l ys) 0 0 (omega arith) (omega arith), xor-masks xs ys (omega arith) (omega arith))

-- a mask is what the two masks have in common and what is left of it
split_mask : (xs ys : List Bool) → length xs ≡ length ys → mask_l (zip2 (λ x y. x && not y) xs ys) + mask_l (zip2 (λ x y. x && y) xs ys) ≡ mask_l xs
split_mask [] [] e = refl
split_mask [] (y ∷ ys) e = absurd (omega arith)
split_mask (x ∷ xs) [] e = absurd (omega arith)
split_mask (true ∷ xs) (true ∷ ys) e = omega (arith, split_mask xs ys (omega arith))
split_mask (true ∷ xs) (false ∷ ys) e = omega (arith, split_mask xs ys (omega arith))
split_mask (false ∷ xs) (true ∷ ys) e = omega (arith, split_mask xs ys (omega arith))
split_mask (false ∷ xs) (false ∷ ys) e = omega (arith, split_mask xs ys (omega arith))

pub mask_below : (xs : List Bool) → length xs ≤ 64 → mask_l xs < 2 ^ 64
mask_below xs l = omega (arith, mask_l-lt xs, pow-le-pow_right {n = 2} (omega arith) l)

pub minus-masks : (xs ys : List Bool) → length xs ≡ length ys → length xs ≤ 64 → bit_and (mask_l xs) (bit_not w64 (mask_l ys)) ≡ mask_l (zip2 (λ x y. x && not y) xs ys)
minus-masks xs ys e l =
    let a = mask_l xs in
    let b = mask_l ys in
    omega (arith, and-not 64 b a (mask_below ys (omega arith)) (mask_below xs l), and_comm a (bit_not w64 b), and_comm a b, and-masks xs ys e l, split_mask xs ys e)
