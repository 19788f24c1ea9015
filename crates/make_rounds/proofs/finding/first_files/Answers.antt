use Rattle.std.proofs.Common.{List, flat_map, ap, ◌∙◌, arith}
use Rattle.std.proofs.lemmas.List.{take_all}
use Rattle.pack_util.specs.declared.number.FileId.{FileId}
use Rattle.make_rounds.proofs.finding.first_files.Goals as goal

pub returns : goal.returns
returns c = c.loop-entry.invariant ∙ ap (flat_map (λ (entry : List FileId). entry)) (take_all c.loop-entry.entry-index c.args.entries.now (omega (arith, c.loop-entry-test.false)))
