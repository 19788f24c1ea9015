use Rattle.std.proofs.Common.{◌≡◌, ◌↔◌}
use Rattle.bit_rows.specs.Words.{IsCombined}
use Rattle.bit_rows.proofs.combining.combine_rest.Given as goal

abbrev pub invariant-loop-k : goal.invariant-loop-k
invariant-loop-k g l =
    IsCombined g.O.WordOperation.word l.initial.into l.other l.into l.from l.k × ((l.changes ≡ 0) ↔ (l.into ≡ l.initial.into))
