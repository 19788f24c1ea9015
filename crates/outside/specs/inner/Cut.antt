-- Where a test that the first members pass, and no others, cuts a list (this project).
use Rattle.std.specs.Prelude.{ℕ, ◌≤◌, Bool, not, List, length, take, drop, nat_eq, IsTrue}
use Rattle.std.specs.List.{AllByRecursion, starts_with}
use Rattle.std.specs.Ordering.{nat_cmp, is_lt}
use Rattle.std.specs.Cmp.Lexicographic.{slice_cmp}

-- the first `count` members pass the test, and the others do not
pub record IsCut {X : Type 0} (test : X → Bool) (members : List X) (count : ℕ) : Type 0 where
  pub inside : count ≤ length members
  pub passing : AllByRecursion (λ member. IsTrue (test member)) (take count members)
  pub failing : AllByRecursion (λ member. IsTrue (not (test member))) (drop count members)

-- the file stands before the path in byte order
abbrev pub is_before : List ℕ → List ℕ × List ℕ → Bool
is_before path file = is_lt (slice_cmp nat_cmp file.0 path)

-- the file's path begins so
abbrev pub has_prefix : List ℕ → List ℕ × List ℕ → Bool
has_prefix prefix file = starts_with nat_eq file.0 prefix
