use Rattle.std.proofs.Common.{◌≡◌, ◌++◌, take}
use Rattle.std.specs.Prelude.{filter_map}
use Rattle.module_build.specs.Answers.{request_fault}
use Rattle.module_build.proofs.answering.with_request_faults.Given as goal

abbrev pub invariant-loop-one : goal.invariant-loop-one
invariant-loop-one l = record {
  places : l.places ≡ l.text;
  all : l.all.items ≡ l.fn.faults ++ filter_map (request_fault l.path l.text) (take l.one-index l.asked);
}
