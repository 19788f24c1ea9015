use Rattle.std.proofs.Common.{◌≡◌, take}
use Rattle.make_rounds.specs.inner.Answered.{named_files}
use Rattle.make_rounds.proofs.entry_files.named_files.Given as goal

abbrev pub invariant-loop-one : goal.invariant-loop-one
invariant-loop-one l = l.files.items ≡ named_files (take l.one-index l.answers)
