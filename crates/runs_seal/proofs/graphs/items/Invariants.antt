use Rattle.runs_seal.specs.Small.{AreGood}
use Rattle.runs_seal.proofs.graphs.items.Given as goal

abbrev pub invariant-loop-part : goal.invariant-loop-part
invariant-loop-part l = AreGood l.size l.items.items
