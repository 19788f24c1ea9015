use Rattle.runs_seal.specs.Small.{AreSmall}
use Rattle.runs_seal.proofs.graphs.records.Given as goal

abbrev pub invariant-loop-word : goal.invariant-loop-word
invariant-loop-word l = AreSmall l.records.items
