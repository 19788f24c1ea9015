-- One split, and the list of all splits (webpack docs, SplitChunksPlugin, but for the order: this project).
use Rattle.std.specs.Prelude.{◌≡◌, ℕ, ◌⊎◌, Bool, true, false, not, ◌&&◌, List, [], ◌∷◌, length, map, Option, None, Some, is_some, if◌then◌else◌}
use Rattle.std.specs.List.{list_any, range_with_len, position, sum_by}
use Rattle.std.specs.declared.cmp.Ordering.TheVariants.{Greater}
use Rattle.pack_util.specs.declared.number.ChunkNo.{ChunkNo}
use Rattle.graph_types.specs.Modules.{module_no}
use Rattle.chunk_graph.specs.declared.split.Split.{Split}
use Rattle.chunk_graph.specs.Chunks.{State, chunk_at, is_in, count, is_open}
use Rattle.chunk_graph.specs.Moves.{chunk_no, joined, same_row, with_new, with_moved, with_closed, with_spent}
use Rattle.split_plan.specs.declared.candidate.Candidate.{Candidate}
use Rattle.split_plan.specs.Plan.{Plan, rule_at}
use Rattle.split_plan.specs.Candidates.{IsCandidate}
use Rattle.split_plan.specs.Order.{order, places}

-- ---- the chunk that takes the modules

-- a chunk of the set that no entry started with, and that holds exactly the modules
abbrev pub is_reusable : State → List Bool → List Bool → ℕ → Bool
is_reusable s set modules i = is_in set i && (not (chunk_at s i).entry && same_row (chunk_at s i).mods modules)

-- the least such chunk, where the cache group has no name and may reuse one
abbrev pub reused_by : Option (List ℕ) → Bool → State → List Bool → List Bool → Option ℕ
reused_by None true s set modules = position (is_reusable s set modules) (range_with_len 0 (length s.chunks))
reused_by None false s set modules = None
reused_by (Some name) reuse s set modules = None

abbrev pub reused_of : Plan → State → Candidate → Option ℕ
reused_of p s x = reused_by (rule_at p x.cache_group).name (rule_at p x.cache_group).reuse s x.chunks x.modules

-- ---- the state after a split

-- the chunk joins each group that has a chunk of the set
abbrev pub with_joined : List Bool → ℕ → State → State
with_joined set n s = record s { groups = map (λ g. if list_any (λ c. is_in set c.0) g then joined n g else g) s.groups }

abbrev pub with_name_spent : Option (List ℕ) → ℕ → State → State
with_name_spent None k s = s
with_name_spent (Some name) k s = with_spent k s

-- the chunk n takes the modules, joins the groups and is closed, and a named cache group is spent
abbrev pub with_taken : Plan → Candidate → ℕ → State → State
with_taken p x n s =
    with_name_spent (rule_at p x.cache_group).name x.cache_group (with_closed n (with_joined x.chunks n (with_moved x.modules x.chunks n s)))

abbrev pub after_at : Plan → State → Candidate → Option ℕ → State
after_at p s x (Some n) = with_taken p x n s
after_at p s x None = with_taken p x (length s.chunks) (with_new (rule_at p x.cache_group).name s)

abbrev pub after_split : Plan → State → Candidate → State
after_split p s x = after_at p s x (reused_of p s x)

abbrev pub made_of : State → Option ℕ → ChunkNo
made_of s None = chunk_no (length s.chunks)
made_of s (Some n) = chunk_no n

-- what a split by this candidate tells of itself
abbrev pub split_of : Plan → State → Candidate → Split
split_of p s x = record {
  cache_group = x.cache_group;
  forced = x.forced;
  chunks = map chunk_no (places x.chunks);
  modules = map module_no (places x.modules);
  made = made_of s (reused_of p s x);
  reused = is_some (reused_of p s x);
}

-- ---- the list of splits

-- the number of pairs of a module and an open chunk that holds it
abbrev pub pairs : State → ℕ
pairs s = sum_by (λ c. if is_open c then count c.mods else 0) s.chunks

-- the greatest candidate
pub record IsBest (p : Plan) (s : State) (x : Candidate) : Type 0 where
  pub there : IsCandidate p s x
  pub greatest : (y : Candidate) → IsCandidate p s y → (y ≡ x) ⊎ (order p x y ≡ Greater)

abbrev pub HasNone : Plan → State → Type 0
HasNone p s = (x : Candidate) → ¬ (IsCandidate p s x)

-- splits that lead from one state to another, each by the best candidate in the state before it
abbrev pub AreSteps : Plan → State → List Split → State → Type 0
AreSteps p s [] t = t ≡ s
AreSteps p s (y ∷ ys) t = (x : Candidate) × IsBest p s x × (y ≡ split_of p s x) × AreSteps p (after_split p s x) ys t

-- all splits: after the last there is no candidate
pub record AreSplits (p : Plan) (s : State) (ys : List Split) (t : State) : Type 0 where
  pub steps : AreSteps p s ys t
  pub done : HasNone p t

-- the next split would make a chunk, and all numbers of chunks are given out
pub record NeedTooMany (p : Plan) (s t : State) : Type 0 where
  pub splits : List Split
  pub steps : AreSteps p s splits t
  pub next : Candidate
  pub best : IsBest p t next
  pub makes : reused_of p t next ≡ None
  pub all : length t.chunks ≡ 8192
