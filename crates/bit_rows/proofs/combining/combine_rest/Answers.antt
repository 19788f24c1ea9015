use Rattle.std.proofs.Common.{arith}
use Rattle.bit_rows.proofs.Blocks.{written_word, changes_of_word}
use Rattle.bit_rows.proofs.combining.combine_rest.Goals as goal

pub loop-k-preserved : goal.loop-k-preserved
loop-k-preserved g c =
    let before = c.loop-k.invariant in (
      written_word g.O.WordOperation.word c.args.into.now c.args.other.now c.loop-k.into c.args.from c.loop-k.k c.loop-k.changes _ c.loop-k.auto.k (omega arith) before.0 c.apply-new.ensures,
      changes_of_word g.O.WordOperation.word c.args.into.now c.args.other.now c.loop-k.into c.args.from c.loop-k.k c.loop-k.changes _ c.loop-k.auto.k (omega arith) before.0 c.apply-new.ensures before.1,
    )
