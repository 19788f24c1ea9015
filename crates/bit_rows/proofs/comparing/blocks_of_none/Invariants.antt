use Rattle.std.proofs.Common.{◌*◌}
use Rattle.bit_rows.specs.Words.{GivesNone}
use Rattle.bit_rows.proofs.comparing.blocks_of_none.Given as goal

abbrev pub invariant-loop-block : goal.invariant-loop-block
invariant-loop-block g l = GivesNone g.O.WordOperation.word l.words l.others 0 (8 * l.block)
