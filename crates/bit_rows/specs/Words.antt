-- What the loops over words keep. All of these are this project's.
use Rattle.std.specs.Prelude.{◌≡◌, ◌≢◌, ℕ, ◌<◌, ◌≤◌, List, length, slice_index}

-- each number is zero
abbrev pub AreZero : List ℕ → Type 0
AreZero words = (k : ℕ) → slice_index words k ≡ 0

-- the words from `start` on and below `end` are combined with the others, and the rest are as they were
pub record IsCombined (word : ℕ → ℕ → ℕ) (old other new : List ℕ) (start end : ℕ) : Type 0 where
  pub len : length new ≡ length old
  pub inside : (k : ℕ) → start ≤ k → k < end → slice_index new k ≡ word (slice_index old k) (slice_index other k)
  pub below : (k : ℕ) → k < start → slice_index new k ≡ slice_index old k
  pub above : (k : ℕ) → end ≤ k → slice_index new k ≡ slice_index old k

-- the operation gives zero at each pair of words from `start` on and below `end`
abbrev pub GivesNone : (ℕ → ℕ → ℕ) → List ℕ → List ℕ → ℕ → ℕ → Type 0
GivesNone word words others start end = (k : ℕ) → start ≤ k → k < end → word (slice_index words k) (slice_index others k) ≡ 0

-- the operation gives a bit at this pair of words, and none at those before
pub record GivesFirst (word : ℕ → ℕ → ℕ) (words others : List ℕ) (k : ℕ) : Type 0 where
  pub within : k < length words
  pub some : word (slice_index words k) (slice_index others k) ≢ 0
  pub none : GivesNone word words others 0 k

-- the word is not zero, it is not below `from`, and those between are zero
pub record IsNextWord (words : List ℕ) (from k : ℕ) : Type 0 where
  pub not_below : from ≤ k
  pub within : k < length words
  pub has_bits : slice_index words k ≢ 0
  pub first : (j : ℕ) → from ≤ j → j < k → slice_index words j ≡ 0
