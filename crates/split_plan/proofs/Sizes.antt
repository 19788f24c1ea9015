-- The sizes of the modules of a row, added up place by place.
use Rattle.std.proofs.Common.{◌≡◌, ℕ, ◌+◌, ◌-◌, ◌<◌, ◌≤◌, zero, suc, Bool, true, false, List, [], ◌∷◌, take, get_or, length, sum, slice_index, sym, ap, ◌∙◌, add-zero, arith}
use Rattle.std.proofs.lemmas.Bool.{cond-true, cond-false}
use Rattle.std.proofs.lemmas.List.{take_all}
use Rattle.std.proofs.lemmas.List.Sums.{sum_by-cons, sum_by_more, sum_by_more_le}
use Rattle.std.proofs.lemmas.Simd.{get_or-zip2, length-zip2}
use Rattle.bit_rows.specs.Places.{NoneTrue, IsNext}
use Rattle.split_plan.specs.Candidates.{sizes_in, size_of}
use Rattle.split_plan.proofs.Places.{is_in-below}

pub size_le : (sizes : List ℕ) (row : List Bool) → size_of sizes row ≤ sum sizes
size_le [] [] = omega arith
size_le (z ∷ sizes) [] = omega arith
size_le [] (b ∷ row) = omega arith
size_le (z ∷ sizes) (true ∷ row) = omega (arith, sum_by-cons (λ n. n) z (sizes_in sizes row), sum_by-cons (λ n. n) z sizes, size_le sizes row)
size_le (z ∷ sizes) (false ∷ row) = omega (arith, sum_by-cons (λ n. n) 0 (sizes_in sizes row), sum_by-cons (λ n. n) z sizes, size_le sizes row)

skip : (zs : List ℕ) (at b : ℕ) → at + b ≤ length zs → ((k : ℕ) → at ≤ k → k < at + b → get_or zs k 0 ≡ 0) → sum (take (at + b) zs) ≡ sum (take at zs)
skip zs at zero le none = ap (λ n. sum (take n zs)) (add-zero at)
skip zs at (suc b) le none =
    let e : at + suc b ≡ at + b + 1 = omega arith in
    let lt : at + b < length zs = omega arith in
    let more = sum_by_more (λ n. n) zs (at + b) 0 lt in
    let here = none (at + b) (omega arith) (omega arith) in
    let rest = skip zs at b (omega arith) (λ k l h. none k l (omega arith)) in
    ap (λ n. sum (take n zs)) e ∙ more ∙ ap (λ n. sum (take (at + b) zs) + n) here ∙ add-zero _ ∙ rest

none_there : (sizes : List ℕ) (row : List Bool) (k : ℕ) → length row ≡ length sizes → k < length row → get_or row k false ≡ false → get_or (sizes_in sizes row) k 0 ≡ 0
none_there sizes row k len lt h = get_or-zip2 _ row sizes k false 0 0 lt (omega arith) ∙ cond-false (get_or row k false) _ _ h

pub size_step : (sizes : List ℕ) (row : List Bool) (at m : ℕ) → length row ≡ length sizes → IsNext row at m
    → (sum (take at (sizes_in sizes row)) + slice_index sizes m ≡ sum (take (m + 1) (sizes_in sizes row))) × (sum (take (m + 1) (sizes_in sizes row)) ≤ sum sizes)
size_step sizes row at m len next =
    let zs = sizes_in sizes row in
    let lt = is_in-below row m next.is_true in
    let low = next.not_below in
    let size : length zs ≡ length row = length-zip2 _ row sizes len in
    let e : at + (m - at) ≡ m = omega arith in
    let here : get_or zs m 0 ≡ slice_index sizes m = get_or-zip2 _ row sizes m false 0 0 lt (omega arith) ∙ cond-true (get_or row m false) _ _ next.is_true in
    let gap : sum (take m zs) ≡ sum (take at zs) =
    ap (λ n. sum (take n zs)) (sym e) ∙ skip zs at (m - at) (omega arith) (λ k l h. none_there sizes row k len (omega arith) (next.least k l (omega arith))) in
    let more : sum (take (m + 1) zs) ≡ sum (take m zs) + get_or zs m 0 = sum_by_more (λ n. n) zs m 0 (omega arith) in
    let le : sum (take m zs) + get_or zs m 0 ≤ sum zs = sum_by_more_le (λ n. n) zs m 0 (omega arith) in
    (omega (arith, gap, more, here), omega (arith, more, le, size_le sizes row))

pub size_end : (sizes : List ℕ) (row : List Bool) (at : ℕ) → length row ≡ length sizes → at ≤ length row → NoneTrue row at (length row)
    → sum (take at (sizes_in sizes row)) ≡ size_of sizes row
size_end sizes row at len le none =
    let zs = sizes_in sizes row in
    let size : length zs ≡ length row = length-zip2 _ row sizes len in
    let e : at + (length row - at) ≡ length row = omega arith in
    sym (skip zs at (length row - at) (omega arith) (λ k l h. none_there sizes row k len (omega arith) (none k l (omega arith))))
    ∙ ap (λ n. sum (take n zs)) e ∙ ap sum (take_all (length row) zs (omega arith))
