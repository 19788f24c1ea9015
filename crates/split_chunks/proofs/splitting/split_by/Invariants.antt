use Rattle.std.proofs.Common.{◌≡◌, length}
use Rattle.split_plan.specs.Step.{AreSteps, pairs}
use Rattle.split_chunks.specs.Loads.{KeepsLoads}
use Rattle.split_chunks.proofs.splitting.split_by.Given as goal

abbrev pub invariant-loop-splits : goal.invariant-loop-splits
invariant-loop-splits l = record {
  steps : AreSteps l.plan l.initial.state l.splits.items l.state;
  loads : KeepsLoads l.plan l.initial.state l.splits.items l.state;
  width : l.state.width ≡ length l.plan.sizes;
}

abbrev pub decreases-loop-splits : goal.decreases-loop-splits
decreases-loop-splits l = pairs l.state
