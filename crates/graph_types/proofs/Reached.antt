-- What the members of a least closed set are.
use Rattle.std.proofs.Common.{◌≡◌, ℕ, zero, suc, ◌+◌, ◌<◌, ◌⊎◌, inl, inr, Bool, List, [], ◌∷◌, refl, sym, ap, ◌∙◌, arith, nat_eq}
use Rattle.std.specs.Prelude.{IsTrue, Contains, slice_index}
use Rattle.std.specs.Cmp.{nat_eq_equiv}
use Rattle.std.specs.List.{AllByRecursion, list_any}
use Rattle.std.specs.List.Sorted.{IsStrictlyIncreasing}
use Rattle.std.proofs.lemmas.Bool.Decides.{Decides-eqb}
use Rattle.std.proofs.lemmas.List.Elements.{All-contains, All-from_recursion}
use Rattle.std.proofs.lemmas.List.Kept.{AllPairs-from_increasing}
use Rattle.std.proofs.lemmas.Map.Views.{list_any-from_Contains, Contains-from_any}
use Rattle.graph_types.specs.Reached.{HoldsAll, IsClosed, IsReached}

-- the set of a list's members
abbrev pub among : List ℕ → ℕ → Bool
among xs x = list_any (nat_eq x) xs

pub among-Contains : (xs : List ℕ) (x : ℕ) → Contains xs x → IsTrue (among xs x)
among-Contains xs x found = list_any-from_Contains nat_eq_equiv x xs found

pub Contains-among : (xs : List ℕ) (x : ℕ) → IsTrue (among xs x) → Contains xs x
Contains-among xs x test = Contains-from_any (λ a b h. (Decides-eqb a b).0 h) x xs test

pub all-weaker : {X : Type 0} {P Q : X → Type 0} → ((x : X) → P x → Q x) → (xs : List X) → AllByRecursion P xs → AllByRecursion Q xs
all-weaker weaker [] all = all
all-weaker weaker (x ∷ xs) all = (weaker x all.0, all-weaker weaker xs all.1)

pub all-member : (P : ℕ → Type 0) (xs : List ℕ) (x : ℕ) → AllByRecursion P xs → Contains xs x → P x
all-member P xs x all found = All-contains P xs x (All-from_recursion P xs all) found

-- the second list's members are the first one's too
within : (targets_of : ℕ → List ℕ) (first one other : List ℕ) → IsReached targets_of first one → IsReached targets_of first other → (x : ℕ) → Contains other x → Contains one x
within targets_of first one other held least x found =
    let set = among one in
    let holds : HoldsAll set first = all-weaker (among-Contains one) first held.holds in
    let closed : IsClosed targets_of set = λ file test. all-weaker (among-Contains one) (targets_of file) (held.closed file (Contains-among one file test)) in
    Contains-among one x (all-member (λ file. IsTrue (set file)) other x (least.least set holds closed) found)

pub head-or-rest : (y : ℕ) (ys : List ℕ) (x : ℕ) → Contains (y ∷ ys) x → (y ≡ x) ⊎ Contains ys x
head-or-rest y ys x (zero, inside, is) = inl is
head-or-rest y ys x (suc k, inside, is) = inr (k, omega arith, is)

pub rest-member : (y : ℕ) (ys : List ℕ) (x : ℕ) → Contains ys x → Contains (y ∷ ys) x
rest-member y ys x (k, inside, is) = (suc k, omega arith, is)

head-below : (y : ℕ) (ys : List ℕ) (x : ℕ) → IsStrictlyIncreasing (y ∷ ys) → Contains ys x → y < x
head-below y ys x up found =
    All-contains (λ z. y < z) ys x (λ k d inside. AllPairs-from_increasing (y ∷ ys) up 0 (suc k) d (omega arith) (omega arith)) found

rest-rises : (y : ℕ) (ys : List ℕ) → IsStrictlyIncreasing (y ∷ ys) → IsStrictlyIncreasing ys
rest-rises y ys up k inside =
    let same : suc k + 1 ≡ suc (k + 1) = omega arith in
    let next : slice_index (y ∷ ys) (suc k) < slice_index (y ∷ ys) (suc k + 1) = up (suc k) (omega arith) in
    rw same at next

head-same : (x : ℕ) (xs : List ℕ) (y : ℕ) (ys : List ℕ) → IsStrictlyIncreasing (x ∷ xs) → IsStrictlyIncreasing (y ∷ ys) → (x ≡ y) ⊎ Contains xs y → (y ≡ x) ⊎ Contains ys x → x ≡ y
head-same x xs y ys up rise (inl same) there = same
head-same x xs y ys up rise (inr here) (inl same) = sym same
head-same x xs y ys up rise (inr here) (inr there) =
    let low = head-below x xs y up here in
    let high = head-below y ys x rise there in
    absurd (omega arith)

in-rest : (x : ℕ) (xs : List ℕ) (y : ℕ) (ys : List ℕ) → x ≡ y → IsStrictlyIncreasing (x ∷ xs) → (z : ℕ) → Contains xs z → (y ≡ z) ⊎ Contains ys z → Contains ys z
in-rest x xs y ys same up z found (inr there) = there
in-rest x xs y ys same up z found (inl is) =
    let low = head-below x xs z up found in
    absurd (omega arith)

-- numbers in order are known by their members
same-from-members : (xs ys : List ℕ) → IsStrictlyIncreasing xs → IsStrictlyIncreasing ys → ((x : ℕ) → Contains xs x → Contains ys x) → ((x : ℕ) → Contains ys x → Contains xs x) → xs ≡ ys
same-from-members [] [] up rise to from = refl
same-from-members [] (y ∷ ys) up rise to from =
    let none = (from y (0, omega arith, refl)).1 in
    absurd (omega arith)
same-from-members (x ∷ xs) [] up rise to from =
    let none = (to x (0, omega arith, refl)).1 in
    absurd (omega arith)
same-from-members (x ∷ xs) (y ∷ ys) up rise to from =
    let here = head-or-rest x xs y (from y (0, omega arith, refl)) in
    let there = head-or-rest y ys x (to x (0, omega arith, refl)) in
    let same : x ≡ y = head-same x xs y ys up rise here there in
    let rest : xs ≡ ys = same-from-members xs ys (rest-rises x xs up) (rest-rises y ys rise)
    (λ z found. in-rest x xs y ys same up z found (head-or-rest y ys z (to z (rest-member x xs z found))))
    (λ z found. in-rest y ys x xs (sym same) rise z found (head-or-rest x xs z (from z (rest-member y ys z found)))) in
    ap (λ head. head ∷ xs) same ∙ ap (λ tail. y ∷ tail) rest

pub one-list : (targets_of : ℕ → List ℕ) (first one other : List ℕ) → IsStrictlyIncreasing one → IsStrictlyIncreasing other → IsReached targets_of first one → IsReached targets_of first other → one ≡ other
one-list targets_of first one other up rise held least =
    same-from-members one other up rise (within targets_of first other one least held) (within targets_of first one other held least)
