use Rattle.split_plan.specs.inner.Search.{AreNamedRows}
use Rattle.split_plan.proofs.named.named_rows.Given as goal

abbrev pub invariant-loop-module : goal.invariant-loop-module
invariant-loop-module l = AreNamedRows l.state l.rule l.shares l.«module» l.modules l.chunks
