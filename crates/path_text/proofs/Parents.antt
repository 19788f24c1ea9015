-- The part of a list before the last element that passes a test.
use Rattle.std.proofs.Common.{◌≡◌, ℕ, ◌+◌, ◌-◌, ◌<◌, ◌≢◌, not, List, [], length, take, get_or, slice_range, ap, arith}
use Rattle.std.proofs.lemmas.Bool.Decides.{nat_tests}
use Rattle.std.proofs.lemmas.List.Sums.{suffix_len_is}
use Rattle.std.specs.List.{suffix_len}
use Rattle.path_text.specs.Path.{is_slash, parent_of}

pub parent_of-at : (path : List ℕ) (end : ℕ) → end < length path → get_or path end 0 ≡ 47 → ((i : ℕ) → end < i → i < length path → get_or path i 0 ≢ 47) → slice_range path 0 end ≡ parent_of path
parent_of-at path end within slash after =
    let all : suffix_len (λ x. not (is_slash x)) path ≡ length path - (end + 1) = suffix_len_is (λ x. not (is_slash x)) path (end + 1) 0 (omega arith) (λ k low high. let ne = after k (omega arith) high in grind (arith, nat_tests)) (λ _. let here : end + 1 - 1 ≡ end = omega arith in rw (here, slash)) in
    let same : end - 0 ≡ length path - suffix_len (λ x. not (is_slash x)) path - 1 = omega arith in
    ap (λ n. take n path) same

pub parent_of-none : (path : List ℕ) → ((i : ℕ) → i < length path → get_or path i 0 ≢ 47) → [] ≡ parent_of path
parent_of-none path none =
    let all : suffix_len (λ x. not (is_slash x)) path ≡ length path - 0 = suffix_len_is (λ x. not (is_slash x)) path 0 0 (omega arith) (λ k low high. let ne = none k high in grind (arith, nat_tests)) (λ h. absurd (omega arith)) in
    let same : 0 ≡ length path - suffix_len (λ x. not (is_slash x)) path - 1 = omega arith in
    ap (λ n. take n path) same
