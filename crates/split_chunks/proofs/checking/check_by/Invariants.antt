use Rattle.std.proofs.Common.{◌≡◌, length, take}
use Rattle.split_chunks.specs.Accepted.{AreAccepted}
use Rattle.split_chunks.specs.Loads.{KeepsLoads}
use Rattle.split_chunks.proofs.checking.check_by.Given as goal

abbrev pub invariant-loop-place : goal.invariant-loop-place
invariant-loop-place l = record {
  accepted : AreAccepted l.plan l.initial.state (take l.place l.list) l.state;
  loads : KeepsLoads l.plan l.initial.state (take l.place l.list) l.state;
  width : l.state.width ≡ length l.plan.sizes;
}
