-- Which files walks lead to: each round adds the targets of all files so far, until a round adds none.
use Rattle.std.proofs.Common.{◌≡◌, ℕ, zero, suc, ◌+◌, ◌<◌, ◌≤◌, ◌⊎◌, inl, inr, Bool, true, false, cond, List, [], ◌∷◌, ◌++◌, refl, arith}
use Rattle.std.specs.Prelude.{◌↔◌, IsTrue, Contains, flat_map}
use Rattle.std.specs.List.{AllByRecursion}
use Rattle.std.proofs.lemmas.Bool.{cases_Bool}
use Rattle.std.proofs.lemmas.List.Elements.{Contains-append_left, Contains-append_right, Contains-append_cases}
use Rattle.graph_types.specs.Reached.{HoldsAll, IsClosed, IsReached, Walk}
use Rattle.graph_types.proofs.Reached.{among, among-Contains, Contains-among, all-member, head-or-rest, rest-member}

-- how many numbers are outside the set
abbrev outside : (ℕ → Bool) → List ℕ → ℕ
outside set [] = 0
outside set (x ∷ xs) = cond (set x) (outside set xs) (outside set xs + 1)

differ : (test : Bool) → test ≡ true → test ≡ false → ⊥
differ test held lacks = grind (arith, held, lacks)

step-no-more : (small large : Bool) (a b : ℕ) → (small ≡ true → large ≡ true) → b ≤ a → cond large b (b + 1) ≤ cond small a (a + 1)
step-no-more true true a b grows low = low
step-no-more true false a b grows low = absurd (differ false (grows refl) refl)
step-no-more false true a b grows low = omega arith
step-no-more false false a b grows low = omega arith

step-fewer : (small large : Bool) (a b : ℕ) → (small ≡ true → large ≡ true) → b < a → cond large b (b + 1) < cond small a (a + 1)
step-fewer true true a b grows low = low
step-fewer true false a b grows low = absurd (differ false (grows refl) refl)
step-fewer false true a b grows low = omega arith
step-fewer false false a b grows low = omega arith

step-found : (small large : Bool) (a b : ℕ) → small ≡ false → large ≡ true → b ≤ a → cond large b (b + 1) < cond small a (a + 1)
step-found true large a b lacks held low = absurd (differ true refl lacks)
step-found false false a b lacks held low = absurd (differ false held refl)
step-found false true a b lacks held low = omega arith

module _ (small large : ℕ → Bool) (grows : (x : ℕ) → small x ≡ true → large x ≡ true) where
  no-more : (xs : List ℕ) → outside large xs ≤ outside small xs
  no-more [] = omega arith
  no-more (x ∷ xs) = step-no-more (small x) (large x) _ _ (grows x) (no-more xs)

  fewer : (x : ℕ) → small x ≡ false → large x ≡ true → (xs : List ℕ) → Contains xs x → outside large xs < outside small xs
  fewer x lacks held [] found = let none = found.1 in absurd (omega arith)
  fewer x lacks held (y ∷ ys) found = at (fewer x lacks held ys) (head-or-rest y ys x found)
    where
      at : (Contains ys x → outside large ys < outside small ys) → (y ≡ x) ⊎ Contains ys x → outside large (y ∷ ys) < outside small (y ∷ ys)
      at rest (inl is) = step-found (small y) (large y) _ _ (rw is lacks) (rw is held) (no-more ys)
      at rest (inr there) = step-fewer (small y) (large y) _ _ (grows y) (rest there)

-- the set holds all, or one of them is outside it
all-or-one : (set : ℕ → Bool) (xs : List ℕ) → HoldsAll set xs ⊎ ((x : ℕ) × Contains xs x × (set x ≡ false))
all-or-one set [] = inl tt
all-or-one set (x ∷ xs) = at (cases_Bool (set x)) (all-or-one set xs)
  where
    at : (set x ≡ true) ⊎ (set x ≡ false) → HoldsAll set xs ⊎ ((y : ℕ) × Contains xs y × (set y ≡ false)) → HoldsAll set (x ∷ xs) ⊎ ((y : ℕ) × Contains (x ∷ xs) y × (set y ≡ false))
    at (inl held) (inl all) = inl (held, all)
    at (inl held) (inr (y, found, lacks)) = inr (y, rest-member x xs y found, lacks)
    at (inr lacks) rest = inr (x, (0, omega arith, refl), lacks)

target-of-member : (targets_of : ℕ → List ℕ) (files : List ℕ) (file : ℕ) → Contains (flat_map targets_of files) file → (from : ℕ) × Contains files from × Contains (targets_of from) file
target-of-member targets_of [] file found = let none = found.1 in absurd (omega arith)
target-of-member targets_of (x ∷ xs) file found = at (target-of-member targets_of xs file) (Contains-append_cases (targets_of x) (flat_map targets_of xs) file found)
  where
    at : (Contains (flat_map targets_of xs) file → (from : ℕ) × Contains xs from × Contains (targets_of from) file) → Contains (targets_of x) file ⊎ Contains (flat_map targets_of xs) file → (from : ℕ) × Contains (x ∷ xs) from × Contains (targets_of from) file
    at rest (inl here) = (x, (0, omega arith, refl), here)
    at rest (inr there) = let (from, inside, leads) = rest there in (from, rest-member x xs from inside, leads)

target-joins : (targets_of : ℕ → List ℕ) (files : List ℕ) (from file : ℕ) → Contains files from → Contains (targets_of from) file → Contains (flat_map targets_of files) file
target-joins targets_of [] from file found leads = let none = found.1 in absurd (omega arith)
target-joins targets_of (x ∷ xs) from file found leads = at (λ there. target-joins targets_of xs from file there leads) (head-or-rest x xs from found)
  where
    at : (Contains xs from → Contains (flat_map targets_of xs) file) → (x ≡ from) ⊎ Contains xs from → Contains (flat_map targets_of (x ∷ xs)) file
    at rest (inl is) = Contains-append_left (targets_of x) (flat_map targets_of xs) file (rw is leads)
    at rest (inr there) = Contains-append_right (targets_of x) (flat_map targets_of xs) file (rest there)

-- what holds of each member holds of all
each-to-all : (P : ℕ → Type 0) (xs : List ℕ) → ((x : ℕ) → Contains xs x → P x) → AllByRecursion P xs
each-to-all P [] each = tt
each-to-all P (x ∷ xs) each = (each x (0, omega arith, refl), each-to-all P xs (λ y found. each y (rest-member x xs y found)))

module _ (targets_of : ℕ → List ℕ) (first : List ℕ) where
  -- the files after so many rounds
  abbrev round : ℕ → List ℕ
  round zero = first
  round (suc n) = round n ++ flat_map targets_of (round n)

  round-walk : (n file : ℕ) → Contains (round n) file → (steps : ℕ) × Walk targets_of first file steps
  round-walk zero file found = (0, found)
  round-walk (suc n) file found = at (round-walk n) (Contains-append_cases (round n) (flat_map targets_of (round n)) file found)
    where
      at : ((x : ℕ) → Contains (round n) x → (steps : ℕ) × Walk targets_of first x steps) → Contains (round n) file ⊎ Contains (flat_map targets_of (round n)) file → (steps : ℕ) × Walk targets_of first file steps
      at walks (inl before) = walks file before
      at walks (inr new) =
          let (from, inside, leads) = target-of-member targets_of (round n) file new in
          let (steps, walk) = walks from inside in
          (suc steps, (from, walk, leads))

  first-stays : (n file : ℕ) → Contains first file → Contains (round n) file
  first-stays zero file found = found
  first-stays (suc n) file found = Contains-append_left (round n) (flat_map targets_of (round n)) file (first-stays n file found)

  module _ (members : List ℕ) (reached : IsReached targets_of first members) where
    walk-member : (steps file : ℕ) → Walk targets_of first file steps → Contains members file
    walk-member zero file walk = all-member (Contains members) first file reached.holds walk
    walk-member (suc steps) file (from, walk, leads) =
        all-member (Contains members) (targets_of from) file (reached.closed from (walk-member steps from walk)) leads

    closed-round : (n : ℕ) → HoldsAll (among (round n)) (round (suc n)) → IsClosed targets_of (among (round n))
    closed-round n all file inside =
        let found = Contains-among (round n) file inside in
        each-to-all (λ x. IsTrue (among (round n) x)) (targets_of file) (λ target leads.
        all-member (λ x. IsTrue (among (round n) x)) (round (suc n)) target all
        (Contains-append_right (round n) (flat_map targets_of (round n)) target (target-joins targets_of (round n) file target found leads)))

    last-round : (fuel n : ℕ) → outside (among (round n)) members < fuel → (last : ℕ) × IsClosed targets_of (among (round last))
    last-round zero n low = absurd (omega arith)
    last-round (suc fuel) n low = at (last-round fuel (suc n)) (all-or-one (among (round n)) (round (suc n)))
      where
        at : (outside (among (round (suc n))) members < fuel → (last : ℕ) × IsClosed targets_of (among (round last))) → HoldsAll (among (round n)) (round (suc n)) ⊎ ((x : ℕ) × Contains (round (suc n)) x × (among (round n) x ≡ false)) → (last : ℕ) × IsClosed targets_of (among (round last))
        at next (inl all) = (n, closed-round n all)
        at next (inr (x, found, lacks)) =
            let walk = round-walk (suc n) x found in
            let less = fewer (among (round n)) (among (round (suc n)))
            (λ y inside. among-Contains (round (suc n)) y (Contains-append_left (round n) (flat_map targets_of (round n)) y (Contains-among (round n) y inside)))
            x lacks (among-Contains (round (suc n)) x found) members (walk-member walk.0 x walk.1) in
            next (omega arith)

    member-walk : (file : ℕ) → Contains members file → (steps : ℕ) × Walk targets_of first file steps
    member-walk file found =
        let (last, closed) = last-round (outside (among (round 0)) members + 1) 0 (omega arith) in
        let holds : HoldsAll (among (round last)) first = each-to-all (λ x. IsTrue (among (round last) x)) first (λ x inside. among-Contains (round last) x (first-stays last x inside)) in
        let inside = all-member (λ x. IsTrue (among (round last) x)) members file (reached.least (among (round last)) holds closed) found in
        round-walk last file (Contains-among (round last) file inside)

  walk-held : (set : ℕ → Bool) → HoldsAll set first → IsClosed targets_of set → (steps file : ℕ) → Walk targets_of first file steps → IsTrue (set file)
  walk-held set holds closed zero file walk = all-member (λ x. IsTrue (set x)) first file holds walk
  walk-held set holds closed (suc steps) file (from, walk, leads) =
      all-member (λ x. IsTrue (set x)) (targets_of from) file (closed from (walk-held set holds closed steps from walk)) leads

pub by-a-walk : (targets_of : ℕ → List ℕ) (first members : List ℕ) → IsReached targets_of first members → (file : ℕ) → Contains members file ↔ ((steps : ℕ) × Walk targets_of first file steps)
by-a-walk targets_of first members reached file =
    (member-walk targets_of first members reached file, λ walk. walk-member targets_of first members reached walk.0 file walk.1)

pub walks-reached : (targets_of : ℕ → List ℕ) (first members : List ℕ) → ((file : ℕ) → Contains members file ↔ ((steps : ℕ) × Walk targets_of first file steps)) → IsReached targets_of first members
walks-reached targets_of first members exactly = record {
  holds = each-to-all (Contains members) first (λ file found. (exactly file).1 (0, found));
  closed = λ file found. let walk = (exactly file).0 found in
      each-to-all (Contains members) (targets_of file) (λ target leads. (exactly target).1 (suc walk.0, (file, walk.1, leads)));
  least = λ set holds closed. each-to-all (λ file. IsTrue (set file)) members (λ file found.
      let walk = (exactly file).0 found in walk-held targets_of first set holds closed walk.0 file walk.1);
}
