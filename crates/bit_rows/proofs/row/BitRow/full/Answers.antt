use Rattle.std.proofs.Common.{◌+◌, ◌-◌, ◌/◌, ◌^◌, true, replicate, set, ap, arith}
use Rattle.std.proofs.lemmas.List.{length-replicate}
use Rattle.bit_rows.proofs.Packed.{Holds, holds, packed_full}
use Rattle.bit_rows.proofs.row.BitRow.full.Goals as goal

full_row : (c : goal.After-words-3-1) → Holds c.args.len (set c.in_ok-words.words.items ((c.args.len - 1) / 64) c.bits_below.result) (replicate c.args.len true)
full_row c =
    let last = (c.args.len - 1) / 64 in
    holds c.args.len _ (set (replicate (last + 1) (2 ^ 64 - 1)) last c.bits_below.result) (replicate c.args.len true) (omega arith)
    (ap (λ ws. set ws last c.bits_below.result) (c.in_ok-words.ensures.items_if_clones_equal (λ y e. e))) (length-replicate c.args.len true)
    (packed_full c.args.len last c.bits_below.result (omega arith) (omega arith) c.bits_below.ensures)

pub invariant_of-result : goal.invariant_of-result
invariant_of-result c = (full_row c).packed

pub returns : goal.returns
returns c = (full_row c).row_is
