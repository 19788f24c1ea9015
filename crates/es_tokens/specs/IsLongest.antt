-- That a front of a text is the longest that passes, as a relation (this project).
use Rattle.std.specs.Prelude.{ℕ, ◌≡◌, ◌<◌, List, ◌++◌, Option, None, Some, Bool, true, false, length}

-- a front that passes, while none that is longer does
pub record IsLongest (passes : List ℕ → Bool) (text front rest : List ℕ) : Type 0 where
  pub parts : text ≡ front ++ rest
  pub holds : passes front ≡ true
  pub longest : (more left : List ℕ) → text ≡ more ++ left → length front < length more → passes more ≡ false

-- what the longest front leaves, where a front passes
abbrev pub LeavesLongest : (List ℕ → Bool) → List ℕ → Option (List ℕ) → Type 0
LeavesLongest passes text None = (front left : List ℕ) → text ≡ front ++ left → passes front ≡ false
LeavesLongest passes text (Some rest) = (front : List ℕ) × IsLongest passes text front rest
