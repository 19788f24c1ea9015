-- What a test of each member of a list tells.
use Rattle.std.proofs.Common.{◌≡◌, ℕ, List, [], ◌∷◌, Bool, true, refl, sym, ◌∙◌}
use Rattle.std.specs.Prelude.{◌↔◌, IsTrue, Contains, nat_eq}
use Rattle.std.specs.Cmp.{nat_eq_equiv}
use Rattle.std.specs.List.{AllByRecursion, list_all, list_any}
use Rattle.std.proofs.lemmas.Bool.{and_from, and_parts}
use Rattle.std.proofs.lemmas.Bool.Decides.{Decides-eqb}
use Rattle.std.proofs.lemmas.Map.Views.{list_any-from_Contains, Contains-from_any}

-- a number is found exactly where it is in the list
pub list_any-Contains : (xs : List ℕ) (x : ℕ) (r : Bool) → r ≡ list_any (nat_eq x) xs → IsTrue r ↔ Contains xs x
list_any-Contains xs x r e =
    (λ t. Contains-from_any (λ a b h. (Decides-eqb a b).0 h) x xs (sym e ∙ t), λ c. e ∙ list_any-from_Contains nat_eq_equiv x xs c)

-- a test of each member
pub list_all-AllByRecursion : (test : ℕ → Bool) (xs : List ℕ) (r : Bool) → r ≡ list_all test xs → IsTrue r ↔ AllByRecursion (λ x. IsTrue (test x)) xs
list_all-AllByRecursion test xs r e = (λ t. split xs (sym e ∙ t), λ all. e ∙ joined xs all)
  where
    split : (ys : List ℕ) → list_all test ys ≡ true → AllByRecursion (λ x. IsTrue (test x)) ys
    split [] t = tt
    split (y ∷ ys) t = let parts = and_parts (test y) (list_all test ys) t in (parts.0, split ys parts.1)

    joined : (ys : List ℕ) → AllByRecursion (λ x. IsTrue (test x)) ys → list_all test ys ≡ true
    joined [] all = refl
    joined (y ∷ ys) all = and_from (test y) (list_all test ys) all.0 (joined ys all.1)
