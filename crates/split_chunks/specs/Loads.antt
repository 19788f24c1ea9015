-- What groups load before and after splits (this project).
use Rattle.std.specs.Prelude.{◌≡◌, ℕ, Bool, true, not, List, is_some}
use Rattle.std.specs.List.{list_all}
use Rattle.chunk_graph.specs.declared.split.Split.{Split}
use Rattle.chunk_graph.specs.Chunks.{State, has_module}
use Rattle.split_plan.specs.Plan.{Plan, rule_at}

-- each module that a group has in the first state it has in the second
abbrev pub LosesNone : State → State → Type 0
LosesNone s t = (g m : ℕ) → has_module s g m ≡ true → has_module t g m ≡ true

-- none of the splits is that of a cache group with a name
abbrev pub are_unnamed : Plan → List Split → Bool
are_unnamed p ys = list_all (λ y. not (is_some (rule_at p y.cache_group).name)) ys

-- splits that lead from one state to another, as groups see it: no group loses a module, and without names none gains one
pub record KeepsLoads (p : Plan) (s : State) (ys : List Split) (t : State) : Type 0 where
  pub lost : LosesNone s t
  pub gained : are_unnamed p ys ≡ true → LosesNone t s
