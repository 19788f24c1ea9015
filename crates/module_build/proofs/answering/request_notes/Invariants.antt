use Rattle.std.proofs.Common.{◌≡◌, take}
use Rattle.std.specs.Prelude.{filter_map}
use Rattle.module_build.specs.Answers.{request_note}
use Rattle.module_build.proofs.answering.request_notes.Given as goal

abbrev pub invariant-loop-one : goal.invariant-loop-one
invariant-loop-one l = l.notes.items ≡ filter_map request_note (take l.one-index l.asked)
