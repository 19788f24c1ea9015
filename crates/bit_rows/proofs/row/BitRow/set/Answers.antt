use Rattle.std.proofs.Common.{◌/◌, set, refl, ap, ◌∙◌, arith}
use Rattle.std.specs.Int.{bit_at}
use Rattle.std.proofs.lemmas.List.{length-set, get_or_default}
use Rattle.bit_rows.proofs.Packed.{Holds, holds, packed_row, packed_set, row_len}
use Rattle.bit_rows.proofs.row.BitRow.set.Goals as goal

new_row : (c : goal.After-self-1) → Holds c.self.inside.len (set c.self.inside.words.items (c.args.at / 64) c.with_bit.result) (set c.args.self.now c.args.at c.args.to)
new_row c =
    let row = c.self.inside in
    let at = c.args.at in
    let len = row_len row.len row.words.items c.args.self.now c.self.view_is in
    let packed = packed_row row.len row.words.items c.args.self.now c.self.view_is c.self.invariant.1 in
    let word = c.index.ensures ∙ get_or_default row.words.items (at / 64) c.index.result.now 0 (omega (arith, packed.enough)) in
    holds row.len _ _ _ c.self.invariant.0 refl (length-set c.args.self.now at c.args.to ∙ len)
    (packed_set row.words.items c.args.self.now at c.with_bit.result c.args.to packed c.requires c.with_bit.type_inv c.with_bit.ensures.here
    (λ i l n. c.with_bit.ensures.elsewhere i l n ∙ ap (λ w. bit_at w i) word))

pub invariant_of-self : goal.invariant_of-self
invariant_of-self c = (new_row c).packed

pub returns : goal.returns
returns c = (new_row c).row_is
