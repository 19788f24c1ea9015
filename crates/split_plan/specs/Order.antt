-- The order of candidates (this project, after the order of webpack's SplitChunksPlugin): the first of these that
-- differs decides.
use Rattle.std.specs.Prelude.{◌≢◌, ℕ, ◌*◌, ◌-◌, ◌<◌, Bool, List, length, slice_index_or}
use Rattle.std.specs.List.{filter, range_with_len}
use Rattle.std.specs.declared.cmp.Ordering.{Ordering}
use Rattle.std.specs.declared.cmp.Ordering.TheVariants.{Less}
use Rattle.std.specs.Ordering.{then_cmp, on, flip_args, nat_cmp, int_cmp, bool_cmp}
use Rattle.std.specs.Cmp.Lexicographic.{slice_cmp}
use Rattle.chunk_graph.specs.Chunks.{is_in, count}
use Rattle.split_plan.specs.declared.candidate.Candidate.{Candidate}
use Rattle.split_plan.specs.Plan.{Plan, rule_at}

-- the true places of a row, ascending
abbrev pub places : List Bool → List ℕ
places row = filter (is_in row) (range_with_len 0 (length row))

-- what a split saves where the chunks are loaded together
abbrev pub weight_of : Candidate → ℕ
weight_of x = x.size * (count x.chunks - 1)

-- more chunks; the greater weight; the lower number of the cache group; more modules
abbrev pub counts_order : Candidate → Candidate → Ordering
counts_order =
    then_cmp (on (λ x. count x.chunks) nat_cmp) (then_cmp (on weight_of nat_cmp)
    (then_cmp (flip_args (on (λ x. x.cache_group) nat_cmp)) (on (λ x. count x.modules) nat_cmp)))

-- the lower list of modules; the lower list of chunks; the form that isn't forced
abbrev pub sets_order : Candidate → Candidate → Ordering
sets_order =
    then_cmp (flip_args (on (λ x. places x.modules) (slice_cmp nat_cmp)))
    (then_cmp (flip_args (on (λ x. places x.chunks) (slice_cmp nat_cmp))) (flip_args (on (λ x. x.forced) bool_cmp)))

-- the greater priority first
abbrev pub order : Plan → Candidate → Candidate → Ordering
order p = then_cmp (on (λ x. (rule_at p x.cache_group).priority) int_cmp) (then_cmp counts_order sets_order)

-- the place is one of the list, and no member is greater than that at the place
pub record IsGreatest (p : Plan) (list : List Candidate) (place : ℕ) : Type 0 where
  pub within : place < length list
  pub greatest : (k : ℕ) (d : Candidate) → k < length list → order p (slice_index_or list place d) (slice_index_or list k d) ≢ Less
