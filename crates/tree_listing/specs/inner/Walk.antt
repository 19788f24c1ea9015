-- What a walk of a tree has kept, and what it goes by (this project).
use Rattle.std.specs.Prelude.{◌≡◌, ◌≢◌, ◌⊎◌, ℕ, ◌<◌, ◌≤◌, List, ◌∷◌, ◌++◌, length, take, slice_index_or, Any, All, AllPairs, Result, MatchResult, Some, Vec}
use Rattle.std.specs.declared.alloc.Global.{Global}
use Rattle.path_text.specs.Path.{parent_of}
use Rattle.outside.specs.Reads.{kind_at}
use Rattle.outside.specs.Tree.{Tree, within}
use Rattle.outside.specs.Views.{ReaderView}
use Rattle.tree_listing.specs.Limits.{IsEntryPath, Exceeds}
use Rattle.tree_listing.specs.declared.kept.Kept.{Kept}
use Rattle.tree_listing.specs.declared.list_end.ListEnd.{ListEnd}
use Rattle.tree_listing.specs.declared.list_end.ListEnd.TheVariants.{Limit as Over}
use Rattle.tree_listing.specs.inner.Kept.{root}
use Rattle.tree_listing.specs.inner.Split.{folders_among}

-- the path stands below the folder
abbrev pub IsBelow : List ℕ → List ℕ → Type 0
IsBelow path folder = (rest : List ℕ) × (path ≡ within folder ++ rest)

-- The first `listed` of the kept entries are listed. Each entry but the root is kept once and stands in a listed
-- folder; what isn't kept stands below a kept entry that isn't listed.
pub record IsWalk (tree : Tree) (listed : ℕ) (kept : List Kept) : Type 0 where
  pub within : listed ≤ length kept
  pub from_root : (rest : List Kept) × (kept ≡ root ∷ rest)
  pub there : All (λ entry. kind_at tree entry.path ≡ Some entry.kind) kept
  pub once : AllPairs (λ one other. one.path ≢ other.path) kept
  pub parents : (k : ℕ) → 0 < k → k < length kept → (j : ℕ) × (j < listed) × ((slice_index_or kept j root).path ≡ parent_of (slice_index_or kept k root).path)
  pub all : (path : List ℕ) → IsEntryPath tree path → Any (λ entry. entry.path ≡ path) kept ⊎ ((k : ℕ) × (listed ≤ k) × (k < length kept) × IsBelow path (slice_index_or kept k root).path)

-- what the tree says of an end
abbrev pub IsEnd : Tree → ListEnd → Type 0
IsEnd tree (Over limit) = Exceeds tree limit
IsEnd tree other = Unit {0}

-- a walk that began when the folders `first` had been listed
pub record HasWalkedTo (tree : Tree) (first : List (List ℕ)) (listed : ℕ) (kept : List Kept) (now : ReaderView) : Type 0 where
  pub walk : IsWalk tree listed kept
  pub folders : now.listed ≡ first ++ folders_among (take listed kept)

-- an end of such a walk
pub record HasEnded (tree : Tree) (first : List (List ℕ)) (now : ReaderView) (end : ListEnd) : Type 0 where
  pub reason : IsEnd tree end
  pub more : List (List ℕ)
  pub joined : now.listed ≡ first ++ more
  pub once : AllPairs (λ one other. one ≢ other) more

-- a walk goes on or ends; only folders were listed
pub record Walks (tree : Tree) (first : List (List ℕ)) (listed : ℕ) (new : List Kept) (before now : ReaderView) (result : Result Unit ListEnd) : Type 0 where
  pub no_stray : now.strays ≡ before.strays
  pub answer : MatchResult result (λ _. HasWalkedTo tree first listed new now) (λ end. HasEnded tree first now end)

-- a whole walk
pub record HasWalked (tree : Tree) (before now : ReaderView) (result : Result (Vec Kept Global) ListEnd) : Type 0 where
  pub no_stray : now.strays ≡ before.strays
  pub answer : MatchResult result (λ kept. HasWalkedTo tree before.listed (length kept.items) kept.items now) (λ end. HasEnded tree before.listed now end)
