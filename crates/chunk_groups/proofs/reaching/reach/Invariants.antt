use Rattle.chunk_groups.proofs.Filled.{IsFilled}
use Rattle.chunk_groups.proofs.reaching.reach.Given as goal

abbrev pub invariant-loop-g : goal.invariant-loop-g
invariant-loop-g l = IsFilled l.graph l.groups.infos l.table l.row l.g
