use Rattle.std.proofs.Common.{◌≡◌, ◌++◌, take}
use Rattle.make_rounds.specs.inner.Answered.{answer_faults}
use Rattle.make_rounds.proofs.entry_files.add_faults.Given as goal

abbrev pub invariant-loop-one : goal.invariant-loop-one
invariant-loop-one l = l.faults.items ≡ l.fn.faults.items ++ answer_faults l.path (take l.one-index l.answers)
