-- What is reached from some files over the targets of each file (this project): the least set that holds the first
-- files and each target of a member. Files are named by their numbers.
use Rattle.std.specs.Prelude.{ℕ, zero, suc, Bool, List, IsTrue, Contains}
use Rattle.std.specs.List.{AllByRecursion}

-- the set holds each of these files
abbrev pub HoldsAll : (ℕ → Bool) → List ℕ → Type 0
HoldsAll set files = AllByRecursion (λ file. IsTrue (set file)) files

-- the set holds each target of each of its members
abbrev pub IsClosed : (ℕ → List ℕ) → (ℕ → Bool) → Type 0
IsClosed targets_of set = (file : ℕ) → IsTrue (set file) → HoldsAll set (targets_of file)

-- the members of the least closed set that holds the first files
pub record IsReached (targets_of : ℕ → List ℕ) (first members : List ℕ) : Type 0 where
  pub holds : AllByRecursion (Contains members) first
  pub closed : (file : ℕ) → Contains members file → AllByRecursion (Contains members) (targets_of file)
  pub least : (set : ℕ → Bool) → HoldsAll set first → IsClosed targets_of set → HoldsAll set members

-- a walk of so many steps from one of the first files to this one, each step to a target
abbrev pub Walk : (ℕ → List ℕ) → List ℕ → ℕ → ℕ → Type 0
Walk targets_of first file zero = Contains first file
Walk targets_of first file (suc steps) = (from : ℕ) × Walk targets_of first from steps × Contains (targets_of from) file
