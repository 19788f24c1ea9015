use Rattle.std.proofs.Common.{length, ◌*◌, ◌/◌, arith}
use Rattle.std.specs.Prelude.{count_ones}
use Rattle.std.proofs.lemmas.List.Sums.{sum_by-take-drop}
use Rattle.bit_rows.proofs.counting.count_of_ones.Goals as goal

pub returns : goal.returns
returns c = omega (arith, sum_by-take-drop count_ones c.args.words.now (8 * (length c.args.words.now / 8)), c.count_in_blocks.ensures.bits, c.count_in_rest.ensures.bits)
