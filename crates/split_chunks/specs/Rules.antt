-- The rules that a split keeps (this project, after what SplitChunksPlugin of webpack's documentation says of each
-- setting), each told by itself.
use Rattle.std.specs.Prelude.{ℕ, Bool, not, ◌&&◌, ◌||◌, ◌==◌, List, length, map, nat_le, nat_lt, Option, None, Some, is_some, if◌then◌else◌}
use Rattle.std.specs.List.{list_all, range_with_len}
use Rattle.std.specs.Cmp.Lexicographic.{pointwise}
use Rattle.std.proofs.Math.Bool.{beq}
use Rattle.pack_util.specs.declared.number.ChunkNo.{ChunkNo}
use Rattle.pack_util.specs.declared.number.ModuleNo.{ModuleNo}
use Rattle.graph_types.specs.Modules.{module_no}
use Rattle.chunk_graph.specs.declared.split.Split.{Split}
use Rattle.chunk_graph.specs.Chunks.{State, chunk_at, is_in, is_open, count, has}
use Rattle.chunk_graph.specs.Moves.{chunk_no}
use Rattle.split_plan.specs.declared.candidate.Candidate.{Candidate}
use Rattle.split_plan.specs.declared.rule.Rule.{Rule}
use Rattle.split_plan.specs.Candidates.{bound_of, candidate_of, comes_from}
use Rattle.split_plan.specs.Order.{places}
use Rattle.split_plan.specs.Plan.{Plan, rule_at}
use Rattle.split_plan.specs.Shares.{is_full, is_reached, is_selected}
use Rattle.split_plan.specs.Step.{made_of, reused_of}
use Rattle.split_chunks.specs.declared.split_rule.SplitRule.{SplitRule}
use Rattle.split_chunks.specs.declared.split_rule.SplitRule.TheVariants.{Group, Selection, Requests, Sharing, Modules, Size, Made}

abbrev pub rule_for : Plan → Split → Rule
rule_for p y = rule_at p y.cache_group

-- the set of the chunks of a list
abbrev pub listed_row : List ChunkNo → ℕ → List Bool
listed_row list n = map (λ i. has i list) (range_with_len 0 n)

-- the candidate of the cache group with the chunks of the split
abbrev pub claimed : Plan → State → Split → Candidate
claimed p s y = candidate_of p s y.cache_group y.forced (listed_row y.chunks (length s.chunks))

abbrev pub same_chunks : List ChunkNo → List ChunkNo → Bool
same_chunks xs ys = pointwise (λ x y. x.0 == y.0) xs ys

abbrev pub same_modules : List ModuleNo → List ModuleNo → Bool
same_modules xs ys = pointwise (λ x y. x.0 == y.0) xs ys

-- the cache group is there; where it has a name it isn't spent; a forced split has a size from which it stands
abbrev pub keeps_group : Plan → State → Split → Bool
keeps_group p s y =
    nat_lt y.cache_group (length p.rules)
    && (not (is_some (rule_for p y).name && is_in s.spent y.cache_group) && (not y.forced || is_some (rule_for p y).threshold))

-- there is a chunk, and every chunk is open and selected
abbrev pub keeps_selection : Plan → State → Split → Bool
keeps_selection p s y =
    nat_lt 0 (length y.chunks) && list_all (λ c. is_open (chunk_at s c.0) && is_selected (rule_for p y).select s c.0) y.chunks

-- no chunk is full, where the split isn't forced
abbrev pub keeps_requests : Plan → State → Split → Bool
keeps_requests p s y = y.forced || list_all (λ c. not (is_full (rule_for p y) s c.0)) y.chunks

-- the chunks are a set from which the cache group may take modules, in ascending order, and they are enough
abbrev pub keeps_sharing : Plan → State → Split → Bool
keeps_sharing p s y =
    comes_from (rule_for p y) y.forced s (length p.sizes) (claimed p s y).chunks
    && (same_chunks (map chunk_no (places (claimed p s y).chunks)) y.chunks && nat_le (rule_for p y).min_chunks (count (claimed p s y).chunks))

abbrev pub keeps_modules : Plan → State → Split → Bool
keeps_modules p s y = same_modules (map module_no (places (claimed p s y).modules)) y.modules

abbrev pub keeps_size : Plan → State → Split → Bool
keeps_size p s y = is_reached (bound_of (rule_for p y) y.forced) (claimed p s y).size

-- the chunk is the one that takes the modules, and there is a number for it where it has to be made
abbrev pub keeps_made : Plan → State → Split → Bool
keeps_made p s y =
    ((made_of s (reused_of p s (claimed p s y))).0 == y.made.0)
    && (beq (is_some (reused_of p s (claimed p s y))) y.reused && (is_some (reused_of p s (claimed p s y)) || nat_lt (length s.chunks) 8192))

-- the first rule that the split doesn't keep
abbrev pub broken : Plan → State → Split → Option SplitRule
broken p s y =
    if not (keeps_group p s y) then Some Group else
    (if not (keeps_selection p s y) then Some Selection else
    (if not (keeps_requests p s y) then Some Requests else
    (if not (keeps_sharing p s y) then Some Sharing else
    (if not (keeps_modules p s y) then Some Modules else
    (if not (keeps_size p s y) then Some Size else
    (if not (keeps_made p s y) then Some Made else None))))))
