use Rattle.std.proofs.Common.{◌≡◌, List, flat_map, take}
use Rattle.pack_util.specs.declared.number.FileId.{FileId}
use Rattle.make_rounds.proofs.finding.first_files.Given as goal

abbrev pub invariant-loop-entry : goal.invariant-loop-entry
invariant-loop-entry l = l.files.items ≡ flat_map (λ (entry : List FileId). entry) (take l.entry-index l.entries)
