use Rattle.std.proofs.Common.{length}
use Rattle.split_plan.specs.Candidates.{Lists}
use Rattle.split_plan.specs.inner.Rows.{AreChunkRows}
use Rattle.split_plan.specs.inner.Search.{IsOfGroupBelow}
use Rattle.split_plan.proofs.search.candidates_of.Given as goal

abbrev pub invariant-loop-cache_group : goal.invariant-loop-cache_group
invariant-loop-cache_group l = record {
  found : Lists (IsOfGroupBelow l.plan l.state l.cache_group) l.found.items;
  rows : AreChunkRows l.state (length l.plan.sizes) l.shares.items;
}
