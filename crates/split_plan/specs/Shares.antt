-- Which chunks share a module under a cache group (webpack docs, SplitChunksPlugin: `chunks`, `minChunks`,
-- `maxInitialRequests` and `maxAsyncRequests`). A set of chunks is a row with a place for each chunk.
use Rattle.std.specs.Prelude.{ℕ, Bool, true, false, not, ◌&&◌, ◌||◌, List, length, map, take, drop, nat_le, Option, None, Some}
use Rattle.std.specs.List.{list_any, range_with_len}
use Rattle.graph_types.specs.declared.cache_group.Select.{Select}
use Rattle.graph_types.specs.declared.cache_group.Select.TheVariants.{Async, Initial, All}
use Rattle.chunk_graph.specs.Chunks.{State, chunk_at, is_in, count, holds, is_open, has}
use Rattle.split_plan.specs.declared.rule.Rule.{Rule}

-- the groups of entries are the first ones
abbrev pub stands_in_entry : State → ℕ → Bool
stands_in_entry s i = list_any (has i) (take s.entries s.groups)

abbrev pub is_taken : Select → Bool → Bool
is_taken Async in_entry = not in_entry
is_taken Initial in_entry = in_entry
is_taken All in_entry = true

abbrev pub is_selected : Select → State → ℕ → Bool
is_selected select s i = is_taken select (stands_in_entry s i)

-- so many are at least the bound, where there is one
abbrev pub is_reached : Option ℕ → ℕ → Bool
is_reached None n = false
is_reached (Some most) n = nat_le most n

-- one of the chunk's groups has as many chunks as may be loaded at once
abbrev pub is_full : Rule → State → ℕ → Bool
is_full rule s i =
    list_any (λ g. has i g && is_reached rule.max_initial (length g)) (take s.entries s.groups)
    || list_any (λ g. has i g && is_reached rule.max_async (length g)) (drop s.entries s.groups)

-- whether a cache group may take modules from the chunk; the forced form is that of its size alone
abbrev pub may_share : Rule → Bool → State → ℕ → Bool
may_share rule forced s i = is_open (chunk_at s i) && (is_selected rule.select s i && (forced || not (is_full rule s i)))

-- the chunks from which it may
abbrev pub allowed_row : Rule → Bool → State → List Bool
allowed_row rule forced s = map (may_share rule forced s) (range_with_len 0 (length s.chunks))

-- the chunks that share the module
abbrev pub sharers : Rule → Bool → State → ℕ → List Bool
sharers rule forced s m = map (λ i. may_share rule forced s i && holds s i m) (range_with_len 0 (length s.chunks))

abbrev pub meets : Rule → ℕ → Bool
meets rule m = is_in rule.test m

-- the module meets the test, and enough chunks share it
abbrev pub is_shared : Rule → Bool → State → ℕ → Bool
is_shared rule forced s m = meets rule m && nat_le rule.min_chunks (count (sharers rule forced s m))

-- the chunks that share one of these modules
abbrev pub named_chunks : Rule → Bool → State → ℕ → List Bool
named_chunks rule forced s width =
    map (λ i. list_any (λ m. is_shared rule forced s m && is_in (sharers rule forced s m) i) (range_with_len 0 width)) (range_with_len 0 (length s.chunks))
