use Rattle.std.proofs.Common.{length, take, map, ap, ◌∙◌, arith, ◌/◌, ◌*◌, ◌≡◌}
use Rattle.std.specs.List.{sum_by}
use Rattle.std.specs.Prelude.{count_ones}
use Rattle.std.proofs.lemmas.List.{map-id}
use Rattle.bit_rows.proofs.Counts.{lanes_after, total_of_lanes}
use Rattle.bit_rows.proofs.counting.count_in_blocks.Goals as goal

pub loop-block-preserved : goal.loop-block-preserved
loop-block-preserved c =
    lanes_after c.loop-block.totals c.args.words.now c.loop-block.block c.requires c.loop-block-test.true c.type_inv.words c.loop-block.invariant _ c.block_at.ensures _
    (map-id (map count_ones c.block_at.result))

pub returns-clause-bits : goal.returns-clause-bits
returns-clause-bits c =
    let all : c.loop-block.block ≡ length c.args.words.now / 8 = omega arith in
    let total = total_of_lanes c.loop-block.block c.loop-block.totals (omega arith) c.loop-block.invariant.0 c.loop-block.invariant.1 in
    total.0 ∙ c.loop-block.invariant.2 ∙ ap (λ n. sum_by count_ones (take (8 * n) c.args.words.now)) all

pub returns-clause-bound : goal.returns-clause-bound
returns-clause-bound c =
    let total = total_of_lanes c.loop-block.block c.loop-block.totals (omega arith) c.loop-block.invariant.0 c.loop-block.invariant.1 in
    omega (arith, total.0, total.1)
