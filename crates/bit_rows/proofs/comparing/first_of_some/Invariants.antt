use Rattle.bit_rows.specs.Words.{GivesNone}
use Rattle.bit_rows.proofs.comparing.first_of_some.Given as goal

abbrev pub invariant-loop-k : goal.invariant-loop-k
invariant-loop-k g l = GivesNone g.O.WordOperation.word l.words l.others 0 l.k
