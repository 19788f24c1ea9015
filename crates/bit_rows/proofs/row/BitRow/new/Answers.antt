use Rattle.std.proofs.Common.{false, replicate, arith}
use Rattle.std.proofs.lemmas.List.{length-replicate}
use Rattle.bit_rows.proofs.Packed.{Holds, holds, packed_blank}
use Rattle.bit_rows.proofs.row.BitRow.new.Goals as goal

blank_row : (c : goal.In_ok-words) → Holds c.args.len c.in_ok-words.words.items (replicate c.args.len false)
blank_row c =
    holds c.args.len _ (replicate c.div_ceil.result 0) (replicate c.args.len false) (omega arith) (c.in_ok-words.ensures.items_if_clones_equal (λ y e. e)) (length-replicate c.args.len false)
    (packed_blank c.div_ceil.result c.args.len (omega arith) (omega arith))

pub invariant_of-result : goal.invariant_of-result
invariant_of-result c = (blank_row c).packed

pub returns : goal.returns
returns c = (blank_row c).row_is
