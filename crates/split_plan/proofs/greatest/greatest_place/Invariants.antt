use Rattle.split_plan.specs.Plan.{plan_of}
use Rattle.split_plan.proofs.GreatestOf.{IsGreatestBelow}
use Rattle.split_plan.proofs.greatest.greatest_place.Given as goal

abbrev pub invariant-loop-place : goal.invariant-loop-place
invariant-loop-place l = IsGreatestBelow (plan_of l.graph l.config) l.list l.place l.best
