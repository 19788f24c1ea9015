-- The longest front: how it grows by a character, and that it is the longest.
use Rattle.std.proofs.Common.{ℕ, ◌≡◌, ◌<◌, Bool, true, false, cond, List, [], ◌∷◌, ◌++◌, length, Option, Some, None, refl, sym, ap, subst, ◌∙◌, arith}
use Rattle.std.specs.Option.{option_or}
use Rattle.es_tokens.specs.Shape.{Shape, no_text, takes_empty, after_first, has_shape}
use Rattle.es_tokens.specs.Longest.{after_longest}
use Rattle.es_tokens.specs.IsLongest.{IsLongest, LeavesLongest}

-- what no text has, no front has
pub longest-no_text : (cs : List ℕ) → after_longest (has_shape no_text) cs ≡ None
longest-no_text [] = refl
longest-no_text (c ∷ cs) = rw (longest-no_text cs)

option_or_assoc : {A : Type 0} (a b d : Option A) → option_or (option_or a b) d ≡ option_or a (option_or b d)
option_or_assoc None b d = refl
option_or_assoc (Some x) b d = refl

pub longest-step : (s t : Shape) (c : ℕ) (cs : List ℕ) (best : Option (List ℕ)) → after_first s c ≡ t →
    option_or (after_longest (has_shape s) (c ∷ cs)) best ≡ option_or (after_longest (has_shape t) cs) (option_or (cond (takes_empty s) (Some (c ∷ cs)) None) best)
longest-step s t c cs best e =
    subst (λ u. option_or (after_longest (has_shape s) (c ∷ cs)) best ≡ option_or (after_longest (has_shape u) cs) (option_or (cond (takes_empty s) (Some (c ∷ cs)) None) best)) e
    (option_or_assoc (after_longest (has_shape (after_first s c)) cs) (cond (takes_empty s) (Some (c ∷ cs)) None) best)

pub longest-end : (s : Shape) (best : Option (List ℕ)) → option_or (after_longest (has_shape s) []) best ≡ option_or (cond (takes_empty s) (Some []) None) best
longest-end s best = refl

pub longest-stop : (s : Shape) (c : ℕ) (cs : List ℕ) (best : Option (List ℕ)) → after_first s c ≡ no_text →
    option_or (after_longest (has_shape s) (c ∷ cs)) best ≡ option_or (cond (takes_empty s) (Some (c ∷ cs)) None) best
longest-stop s c cs best e = longest-step s no_text c cs best e ∙ rw (longest-no_text cs)

-- the computed one is the longest
extended : (passes : List ℕ → Bool) (c : ℕ) (cs rest front : List ℕ) → IsLongest (λ more. passes (c ∷ more)) cs front rest → IsLongest passes (c ∷ cs) (c ∷ front) rest
extended passes c cs rest front h = record {
  parts = ap (λ more. c ∷ more) h.parts;
  holds = h.holds;
  longest = beyond;
}
  where
    beyond : (more left : List ℕ) → c ∷ cs ≡ more ++ left → length (c ∷ front) < length more → passes more ≡ false
    beyond [] left e longer = absurd (omega arith)
    beyond (d ∷ more) left e longer = let same : c ≡ d = cc in let tails : cs ≡ more ++ left = cc in let more_is : length front < length more = omega arith in rw (sym same) (h.longest more left tails more_is)

none-passes : (passes : List ℕ → Bool) (c : ℕ) (cs : List ℕ) → ((front left : List ℕ) → cs ≡ front ++ left → passes (c ∷ front) ≡ false) →
    (front left : List ℕ) → c ∷ cs ≡ front ++ left → 0 < length front → passes front ≡ false
none-passes passes c cs h [] left e longer = absurd (omega arith)
none-passes passes c cs h (d ∷ front) left e longer = let same : c ≡ d = cc in let tails : cs ≡ front ++ left = cc in rw (sym same) (h front left tails)

pub longest-leaves : (passes : List ℕ → Bool) (text : List ℕ) → LeavesLongest passes text (after_longest passes text)
longest-leaves passes [] = at_end (passes []) refl
  where
    past : (more left : List ℕ) → [] ≡ more ++ left → 0 < length more → passes more ≡ false
    past [] left e longer = absurd (omega arith)
    past (c ∷ more) left e longer = cc

    all : passes [] ≡ false → (front left : List ℕ) → [] ≡ front ++ left → passes front ≡ false
    all n [] left e = n
    all n (c ∷ front) left e = cc

    at_end : (test : Bool) → passes [] ≡ test → LeavesLongest passes [] (cond test (Some []) None)
    at_end true e = ([], record { parts = refl; holds = e; longest = past })
    at_end false e = all e
longest-leaves passes (c ∷ cs) = by_rest (after_longest (λ front. passes (c ∷ front)) cs) (longest-leaves (λ front. passes (c ∷ front)) cs) (passes []) refl
  where
    by_rest : (found : Option (List ℕ)) → LeavesLongest (λ front. passes (c ∷ front)) cs found → (test : Bool) → passes [] ≡ test →
        LeavesLongest passes (c ∷ cs) (option_or found (cond test (Some (c ∷ cs)) None))
    by_rest (Some rest) h test e = (c ∷ h.0, extended passes c cs rest h.0 h.1)
    by_rest None h true e = ([], record { parts = refl; holds = e; longest = none-passes passes c cs h })
    by_rest None h false e = none
      where
        none : (front left : List ℕ) → c ∷ cs ≡ front ++ left → passes front ≡ false
        none [] left k = e
        none (d ∷ front) left k = none-passes passes c cs h (d ∷ front) left k (omega arith)
