use Rattle.std.proofs.Common.{◌≡◌, ◌+◌, drop}
use Rattle.json_order.specs.inner.Steps.{run, fresh}
use Rattle.json_order.proofs.reading.run.Given as goal

abbrev pub invariant-loop-index : goal.invariant-loop-index
invariant-loop-index l = run 128 l.reader (l.start + l.index) (drop l.index l.text) ≡ run 128 fresh l.start l.text
