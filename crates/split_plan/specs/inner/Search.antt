-- What the search for candidates has found (this project).
use Rattle.std.specs.Prelude.{◌≡◌, ℕ, ◌+◌, ◌<◌, Bool, true, false, nat_le, ◌&&◌, List, [], slice_index_or, length, map, sum, Option, None, Some, ◌≤◌, ◌^◌}
use Rattle.std.specs.List.{range_with_len, list_any}
use Rattle.chunk_graph.specs.Chunks.{State, is_in, count}
use Rattle.split_plan.specs.declared.candidate.Candidate.{Candidate}
use Rattle.split_plan.specs.declared.rule.Rule.{Rule}
use Rattle.split_plan.specs.Plan.{Plan, rule_at}
use Rattle.split_plan.specs.Candidates.{IsCandidate, lies_in}
use Rattle.split_plan.specs.Shares.{sharers, meets}

-- a module of the row before this one that meets the test and that the same chunks share
pub record IsEarlier (rule : Rule) (shares : List (List Bool)) (mods : List Bool) (at m : ℕ) : Type 0 where
  pub before : m < at
  pub held : is_in mods m ≡ true
  pub tested : meets rule m ≡ true
  pub same : slice_index_or shares m [] ≡ slice_index_or shares at []

abbrev pub goes_with : Rule → List (List Bool) → List Bool → ℕ → Bool
goes_with rule shares set m = meets rule m && lies_in set (slice_index_or shares m [])

-- a candidate of this cache group in this form
pub record IsOfForm (p : Plan) (s : State) (k : ℕ) (forced : Bool) (x : Candidate) : Type 0 where
  pub is : IsCandidate p s x
  pub group : x.cache_group ≡ k
  pub form : x.forced ≡ forced

-- one whose chunks are those of a module below this number
pub record IsFoundBelow (p : Plan) (s : State) (k : ℕ) (forced : Bool) (end : ℕ) (x : Candidate) : Type 0 where
  pub of : IsOfForm p s k forced x
  pub «module» : ℕ
  pub below : «module» < end
  pub tested : meets (rule_at p k) «module» ≡ true
  pub shares : sharers (rule_at p k) forced s «module» ≡ x.chunks

-- the candidate that is found at this module and at none below, or that there is none
abbrev pub MatchFound : Plan → State → ℕ → Bool → ℕ → Option Candidate → Type 0
MatchFound p s k forced at None = (x : Candidate) → IsFoundBelow p s k forced (at + 1) x → IsFoundBelow p s k forced at x
MatchFound p s k forced at (Some x) = IsFoundBelow p s k forced (at + 1) x × ¬ (IsFoundBelow p s k forced at x)

-- what the search in a form goes by: the settings of the cache group, and for each module the chunks that share it
pub record IsSearch (p : Plan) (s : State) (k : ℕ) (forced : Bool) (rule : Rule) (shares : List (List Bool)) : Type 0 where
  pub known : k < length p.rules
  pub slot : k < 16
  pub rule_is : rule ≡ rule_at p k
  pub counted : 1 ≤ rule.min_chunks
  pub test : length rule.test ≡ length p.sizes
  pub width : s.width ≡ length p.sizes
  pub small : sum p.sizes ≤ 2 ^ 50
  pub wide : length p.sizes < 2 ^ 32
  pub len : length shares ≡ length p.sizes
  pub shares_are : shares ≡ map (sharers rule forced s) (range_with_len 0 (length p.sizes))

abbrev pub shared_by : Rule → List (List Bool) → ℕ → Bool
shared_by rule shares m = meets rule m && nat_le rule.min_chunks (count (slice_index_or shares m []))

-- the modules below this number that enough chunks share, and the chunks that share one of them
pub record AreNamedRows (s : State) (rule : Rule) (shares : List (List Bool)) (end : ℕ) (modules chunks : List Bool) : Type 0 where
  pub modules_len : length modules ≡ length shares
  pub chunks_len : length chunks ≡ length s.chunks
  pub below : (m : ℕ) → m < end → is_in modules m ≡ shared_by rule shares m
  pub above : (m : ℕ) → end ≤ m → is_in modules m ≡ false
  pub sharing : (i : ℕ) → is_in chunks i ≡ list_any (λ m. shared_by rule shares m && is_in (slice_index_or shares m []) i) (range_with_len 0 end)

-- a candidate of a cache group below this one
pub record IsOfGroupBelow (p : Plan) (s : State) (k : ℕ) (x : Candidate) : Type 0 where
  pub is : IsCandidate p s x
  pub below : x.cache_group < k
