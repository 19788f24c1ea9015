-- Rules that a split keeps, in the two parts in which they are tested (this project).
use Rattle.std.specs.Prelude.{◌≡◌, true, Option, None, Some}
use Rattle.chunk_graph.specs.declared.split.Split.{Split}
use Rattle.chunk_graph.specs.Chunks.{State}
use Rattle.split_plan.specs.Plan.{Plan}
use Rattle.split_plan.specs.Step.{after_split}
use Rattle.split_chunks.specs.declared.split_rule.SplitRule.{SplitRule}
use Rattle.split_chunks.specs.Rules.{claimed, keeps_group, keeps_selection, keeps_requests, keeps_sharing, keeps_modules, keeps_size}

pub record KeepsFirst (p : Plan) (s : State) (y : Split) : Type 0 where
  pub group : keeps_group p s y ≡ true
  pub selection : keeps_selection p s y ≡ true
  pub requests : keeps_requests p s y ≡ true

pub record KeepsClaim (p : Plan) (s : State) (y : Split) : Type 0 where
  pub sharing : keeps_sharing p s y ≡ true
  pub modules : keeps_modules p s y ≡ true
  pub size : keeps_size p s y ≡ true

-- the state after a split was tested
abbrev pub after_test : Plan → State → Split → Option SplitRule → State
after_test p s y None = after_split p s (claimed p s y)
after_test p s y (Some rule) = s
