use Rattle.std.proofs.Common.{◌≡◌, ◌*◌, ◌≤◌, length, take}
use Rattle.std.specs.List.{sum_by}
use Rattle.std.specs.Prelude.{count_ones}
use Rattle.std.specs.Simd.Lanes.{Each1, sum_l}
use Rattle.bit_rows.proofs.counting.count_in_blocks.Given as goal

abbrev pub invariant-loop-block : goal.invariant-loop-block
invariant-loop-block l =
    (length l.totals ≡ 8) × Each1 (λ n. n ≤ 64 * l.block) l.totals × (sum_l l.totals ≡ sum_by count_ones (take (8 * l.block) l.words))
