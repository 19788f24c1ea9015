use Rattle.runs_seal.specs.Small.{AreGood}
use Rattle.runs_seal.proofs.graphs.add_part.Given as goal

abbrev pub invariant-loop : goal.invariant-loop
invariant-loop l = AreGood l.size l.items.items
