-- The places of members that pass a test, and rows of marks.
use Rattle.std.proofs.Common.{◌≡◌, ℕ, zero, suc, ◌+◌, ◌<◌, ◌≤◌, Bool, true, false, cond, List, [], ◌∷◌, length, get_or, set, replicate, refl, sym, ap, subst, ◌∙◌, inl, inr, arith}
use Rattle.std.proofs.lemmas.List.Sums.{sum_by-cons}
use Rattle.std.proofs.lemmas.Map.Keys.{IsDistinct-cons}
use Rattle.std.specs.List.{AllByRecursion, IsDistinct, slice_get, sum_by}
use Rattle.std.specs.Prelude.{nat_eq, Contains, IsTrue, Some}
use Rattle.graph_types.specs.Reached.{HoldsAll}
use Rattle.make_rounds.specs.inner.Places.{places_where}
use Rattle.make_rounds.proofs.Lists.{all-kept, apart, behind, first_or, here, none_in}
use Rattle.make_rounds.proofs.Orders.{distinct_none}

-- a member that passes, by its place
pub record IsPlace {A : Type 0} (test : A → Bool) (from : ℕ) (xs : List A) (place : ℕ) : Type 0 where
  pub at : ℕ
  pub is : place ≡ from + at
  pub member : A
  pub there : slice_get xs at ≡ Some member
  pub passes : test member ≡ true

module _ {A : Type 0} (test : A → Bool) where
  from_on : (from : ℕ) (xs : List A) → AllByRecursion (λ place. from ≤ place) (places_where test from xs)
  from_on from [] = tt
  from_on from (x ∷ xs) =
      let rest = all-kept (λ place. suc from ≤ place) (λ place. from ≤ place) (λ place above. omega arith) (places_where test (suc from) xs) (from_on (suc from) xs) in
      elim (test x) as (λ b. AllByRecursion (λ place. from ≤ place) (cond b (from ∷ places_where test (suc from) xs) (places_where test (suc from) xs))) [
        | true ↦ (omega arith, rest)
        | false ↦ rest
      ]

  pub places_distinct : (from : ℕ) (xs : List A) → IsDistinct nat_eq (places_where test from xs)
  places_distinct from [] = distinct_none
  places_distinct from (x ∷ xs) =
      let rest = places_distinct (suc from) xs in
      let differ = all-kept (λ place. suc from ≤ place) (λ place. nat_eq from place ≡ false) (λ place above. apart from place above) (places_where test (suc from) xs) (from_on (suc from) xs) in
      elim (test x) as (λ b. IsDistinct nat_eq (cond b (from ∷ places_where test (suc from) xs) (places_where test (suc from) xs))) [
        | true ↦ IsDistinct-cons nat_eq from (places_where test (suc from) xs) differ rest
        | false ↦ rest
      ]

  pub is_place : (from : ℕ) (xs : List A) (at place : ℕ) (x : A) → slice_get xs at ≡ Some x → test x ≡ true → place ≡ from + at → Contains (places_where test from xs) place
  is_place from [] at place x there passes is = cc
  is_place from (y ∷ ys) zero place x there passes is =
      let member : y ≡ x = cc in
      let first : place ≡ from = omega arith in
      subst (λ b. Contains (cond b (from ∷ places_where test (suc from) ys) (places_where test (suc from) ys)) place) (sym (ap test member ∙ passes))
      (subst (Contains (from ∷ places_where test (suc from) ys)) (sym first) (here from (places_where test (suc from) ys)))
  is_place from (y ∷ ys) (suc at) place x there passes is =
      let next : place ≡ suc from + at = omega arith in
      let rest = is_place (suc from) ys at place x there passes next in
      elim (test y) as (λ b. Contains (cond b (from ∷ places_where test (suc from) ys) (places_where test (suc from) ys)) place) [
        | true ↦ behind from (places_where test (suc from) ys) place rest
        | false ↦ rest
      ]

  further : (from : ℕ) (y : A) (ys : List A) (place : ℕ) → IsPlace test (suc from) ys place → IsPlace test from (y ∷ ys) place
  further from y ys place one = record { at = suc one.at; is = omega (arith, one.is); member = one.member; there = one.there; passes = one.passes }

  pub of_place : (from : ℕ) (xs : List A) (place : ℕ) → Contains (places_where test from xs) place → IsPlace test from xs place
  of_place from [] place there = absurd (none_in place there)
  of_place from (y ∷ ys) place there =
      elim (test y) as (λ b. test y ≡ b → Contains (cond b (from ∷ places_where test (suc from) ys) (places_where test (suc from) ys)) place → IsPlace test from (y ∷ ys) place) [
        | true ↦ λ passes held. elim (first_or from (places_where test (suc from) ys) place held) [
          | inl first ↦ record { at = 0; is = omega (arith, first); member = y; there = refl; passes = passes }
          | inr rest ↦ further from y ys place (of_place (suc from) ys place rest)
        ]
        | false ↦ λ fails held. further from y ys place (of_place (suc from) ys place held)
      ] refl there

-- ---- marks

abbrev marks_from : ℕ → List Bool → List ℕ
marks_from from row = places_where (λ mark. mark) from row

pub none_marked : (from n : ℕ) → marks_from from (replicate n false) ≡ []
none_marked from zero = refl
none_marked from (suc n) = none_marked (suc from) n

-- one mark more
pub sum_marked : (g : ℕ → ℕ) (from : ℕ) (row : List Bool) (at place : ℕ) → at < length row → get_or row at false ≡ false → place ≡ from + at → sum_by g (marks_from from (set row at true)) ≡ sum_by g (marks_from from row) + g place
sum_marked g from [] at place within fresh is = absurd (omega arith)
sum_marked g from (true ∷ row) zero place within fresh is = cc
sum_marked g from (false ∷ row) zero place within fresh is =
    let first : place ≡ from = omega arith in
    let more = sum_by-cons g from (marks_from (suc from) row) in
    omega (arith, more, ap g first)
sum_marked g from (true ∷ row) (suc at) place within fresh is =
    let next : place ≡ suc from + at = omega arith in
    let rest = sum_marked g (suc from) row at place (omega arith) fresh next in
    let old = sum_by-cons g from (marks_from (suc from) row) in
    let new = sum_by-cons g from (marks_from (suc from) (set row at true)) in
    omega (arith, rest, old, new)
sum_marked g from (false ∷ row) (suc at) place within fresh is =
    let next : place ≡ suc from + at = omega arith in
    sum_marked g (suc from) row at place (omega arith) fresh next

pub length_marked : (from : ℕ) (row : List Bool) (at : ℕ) → at < length row → get_or row at false ≡ false → length (marks_from from (set row at true)) ≡ length (marks_from from row) + 1
length_marked from [] at within fresh = absurd (omega arith)
length_marked from (true ∷ row) zero within fresh = cc
length_marked from (false ∷ row) zero within fresh = omega arith
length_marked from (true ∷ row) (suc at) within fresh = let rest = length_marked (suc from) row at (omega arith) fresh in omega (arith, rest)
length_marked from (false ∷ row) (suc at) within fresh = length_marked (suc from) row at (omega arith) fresh

pub held_marked : (held : ℕ → Bool) (from : ℕ) (row : List Bool) (at place : ℕ) → HoldsAll held (marks_from from row) → IsTrue (held place) → place ≡ from + at → HoldsAll held (marks_from from (set row at true))
held_marked held from [] at place all one is = tt
held_marked held from (mark ∷ row) zero place all one is =
    let first : place ≡ from = omega arith in (
      subst (λ file. IsTrue (held file)) first one,
      elim mark as (λ b. HoldsAll held (cond b (from ∷ marks_from (suc from) row) (marks_from (suc from) row)) → HoldsAll held (marks_from (suc from) row)) [
        | true ↦ λ all. all.1
        | false ↦ λ all. all
      ] all,
    )
held_marked held from (true ∷ row) (suc at) place all one is =
    let next : place ≡ suc from + at = omega arith in
    (all.0, held_marked held (suc from) row at place all.1 one next)
held_marked held from (false ∷ row) (suc at) place all one is =
    let next : place ≡ suc from + at = omega arith in
    held_marked held (suc from) row at place all one next
