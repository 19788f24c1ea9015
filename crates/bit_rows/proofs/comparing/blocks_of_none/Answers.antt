use Rattle.std.proofs.Common.{◌*◌, ◌+◌, ◌≡◌, arith}
use Rattle.bit_rows.proofs.Blocks.{none_in_block, none_more}
use Rattle.bit_rows.proofs.comparing.blocks_of_none.Goals as goal

pub loop-block-preserved : goal.loop-block-preserved
loop-block-preserved g c =
    let at = 8 * c.loop-block.block in
    let more : 8 * (c.loop-block.block + 1) ≡ at + 8 = omega arith in
    let here = none_in_block g.O.WordOperation.word c.args.words.now c.args.others.now _ _ _ at
    (omega arith) c.requires c.block_at-own.ensures c.block_at-other.ensures c.apply_to_lanes.ensures (c.has_bits.ensures.0 c.if-has_bits.false) in
    rw more (none_more g.O.WordOperation.word c.args.words.now c.args.others.now 0 at (at + 8) c.loop-block.invariant here)
