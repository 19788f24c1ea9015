use Rattle.std.proofs.Common.{◌≡◌, map, take}
use Rattle.make_rounds.specs.inner.Answered.{named_files}
use Rattle.make_rounds.proofs.entry_files.all_files.Given as goal

abbrev pub invariant-loop-answers : goal.invariant-loop-answers
invariant-loop-answers l = l.files.items ≡ map named_files (take l.answers-index l.all)
