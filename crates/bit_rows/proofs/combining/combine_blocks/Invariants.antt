use Rattle.std.proofs.Common.{◌≡◌, ◌*◌, ◌↔◌, length}
use Rattle.bit_rows.specs.Words.{AreZero, IsCombined}
use Rattle.bit_rows.proofs.combining.combine_blocks.Given as goal

abbrev pub invariant-loop-block : goal.invariant-loop-block
invariant-loop-block g l =
    IsCombined g.O.WordOperation.word l.initial.into l.other l.into 0 (8 * l.block) × (length l.changes ≡ 8) × (AreZero l.changes ↔ (l.into ≡ l.initial.into))
