-- The admissible candidates for a split (webpack docs, SplitChunksPlugin: `cacheGroups`, `minSize`,
-- `enforceSizeThreshold`), from the plan and the chunk graph alone. A set of chunks or of modules is a row.
use Rattle.std.specs.Prelude.{◌≡◌, ◌≢◌, ℕ, ◌<◌, ◌≤◌, Bool, true, false, not, ◌&&◌, ◌||◌, List, length, map, sum, if◌then◌else◌, All, Contains, Option, None, Some}
use Rattle.std.specs.List.{AllPairs, list_all, list_any, range_with_len}
use Rattle.std.specs.Simd.Lanes.{zip2}
use Rattle.chunk_graph.specs.Chunks.{State, is_in, count}
use Rattle.chunk_graph.specs.Moves.{same_row}
use Rattle.split_plan.specs.declared.candidate.Candidate.{Candidate}
use Rattle.split_plan.specs.declared.rule.Rule.{Rule}
use Rattle.split_plan.specs.Plan.{Plan, rule_at}
use Rattle.split_plan.specs.Shares.{is_reached, sharers, meets, is_shared, named_chunks}

-- each true place of the first row is one of the second
abbrev pub lies_in : List Bool → List Bool → Bool
lies_in row other = list_all (λ i. not (is_in row i) || is_in other i) (range_with_len 0 (length row))

-- Where a set of chunks comes from: without a name from a module that exactly these chunks share; with a name, which
-- may be used once, from all modules that enough chunks share.
abbrev pub Arises : Option (List ℕ) → Rule → ℕ → Bool → State → ℕ → List Bool → Type 0
Arises None rule k forced s width set = (m : ℕ) × (m < width) × (meets rule m ≡ true) × (sharers rule forced s m ≡ set)
Arises (Some name) rule k forced s width set = (is_in s.spent k ≡ false) × (named_chunks rule forced s width ≡ set)

-- whether a module goes with a set of chunks
abbrev pub goes : Option (List ℕ) → Rule → Bool → State → List Bool → ℕ → Bool
goes None rule forced s set m = meets rule m && lies_in set (sharers rule forced s m)
goes (Some name) rule forced s set m = is_shared rule forced s m

abbrev pub modules_for : Rule → Bool → State → ℕ → List Bool → List Bool
modules_for rule forced s width set = map (goes rule.name rule forced s set) (range_with_len 0 width)

-- the sizes of the modules of a row
abbrev pub sizes_in : List ℕ → List Bool → List ℕ
sizes_in sizes row = zip2 (λ is_there size. if is_there then size else 0) row sizes

abbrev pub size_of : List ℕ → List Bool → ℕ
size_of sizes row = sum (sizes_in sizes row)

-- the least size in a form; without a bound there is no candidate of the form
abbrev pub bound_of : Rule → Bool → Option ℕ
bound_of rule true = rule.threshold
bound_of rule false = Some rule.min_size

pub record IsCandidate (p : Plan) (s : State) (x : Candidate) : Type 0 where
  pub known : x.cache_group < length p.rules
  pub arises : Arises (rule_at p x.cache_group).name (rule_at p x.cache_group) x.cache_group x.forced s (length p.sizes) x.chunks
  pub modules : x.modules ≡ modules_for (rule_at p x.cache_group) x.forced s (length p.sizes) x.chunks
  pub size : x.size ≡ size_of p.sizes x.modules
  pub enough : (rule_at p x.cache_group).min_chunks ≤ count x.chunks
  pub large : is_reached (bound_of (rule_at p x.cache_group) x.forced) x.size ≡ true

-- whether a set of chunks is one of those, told for a cache group that isn't spent
abbrev pub comes_by : Option (List ℕ) → Rule → Bool → State → ℕ → List Bool → Bool
comes_by None rule forced s width set = list_any (λ m. meets rule m && same_row (sharers rule forced s m) set) (range_with_len 0 width)
comes_by (Some name) rule forced s width set = same_row (named_chunks rule forced s width) set

abbrev pub comes_from : Rule → Bool → State → ℕ → List Bool → Bool
comes_from rule forced s width set = comes_by rule.name rule forced s width set

-- the candidate with these chunks, whether or not it is admissible
abbrev pub candidate_of : Plan → State → ℕ → Bool → List Bool → Candidate
candidate_of p s k forced set = record {
  cache_group = k;
  forced = forced;
  chunks = set;
  modules = modules_for (rule_at p k) forced s (length p.sizes) set;
  size = size_of p.sizes (modules_for (rule_at p k) forced s (length p.sizes) set);
}

-- exactly the members of a set, each once
pub record Lists {X : Type 0} (P : X → Type 0) (xs : List X) : Type 0 where
  pub each : All P xs
  pub whole : (x : X) → P x → Contains xs x
  pub once : AllPairs (λ x y. x ≢ y) xs

abbrev pub AreCandidates : Plan → State → List Candidate → Type 0
AreCandidates p s xs = Lists (IsCandidate p s) xs
