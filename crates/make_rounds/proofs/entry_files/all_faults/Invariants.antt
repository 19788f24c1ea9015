use Rattle.std.proofs.Common.{◌≡◌, take}
use Rattle.std.specs.Prelude.{flat_map}
use Rattle.make_rounds.specs.inner.Answered.{answer_faults}
use Rattle.make_rounds.proofs.entry_files.all_faults.Given as goal

abbrev pub invariant-loop-answers : goal.invariant-loop-answers
invariant-loop-answers l = l.faults.items ≡ flat_map (answer_faults l.path) (take l.answers-index l.all)
