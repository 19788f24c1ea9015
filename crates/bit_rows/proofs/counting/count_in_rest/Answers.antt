use Rattle.std.proofs.Common.{get_or, arith}
use Rattle.std.specs.Prelude.{count_ones}
use Rattle.std.proofs.lemmas.List.Sums.{sum_by-drop_more}
use Rattle.std.proofs.lemmas.Nat.{ones-le}
use Rattle.bit_rows.proofs.counting.count_in_rest.Goals as goal

pub loop-k-preserved : goal.loop-k-preserved
loop-k-preserved c =
    let k = c.loop-k.k in
    let words = c.args.words.now in (
      omega (arith, c.loop-k.invariant.0, sum_by-drop_more count_ones words k 0 c.loop-k-test.true, c.from-total.ensures),
      omega (arith, c.loop-k.invariant.1, ones-le 64 (get_or words k 0) (c.type_inv.words k).fits, c.from-total.ensures),
    )
