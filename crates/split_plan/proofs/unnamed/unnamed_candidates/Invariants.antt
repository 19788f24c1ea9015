use Rattle.split_plan.specs.Candidates.{Lists}
use Rattle.split_plan.specs.inner.Search.{IsFoundBelow}
use Rattle.split_plan.proofs.unnamed.unnamed_candidates.Given as goal

abbrev pub invariant-loop-module : goal.invariant-loop-module
invariant-loop-module l = Lists (IsFoundBelow l.plan l.state l.form.cache_group l.form.forced l.«module») l.found.items
