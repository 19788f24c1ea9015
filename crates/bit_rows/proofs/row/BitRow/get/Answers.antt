use Rattle.std.proofs.Common.{◌%◌, ◌/◌, ap, ◌∙◌, eqb, arith}
use Rattle.std.specs.Int.{bit_at}
use Rattle.std.proofs.lemmas.List.{get_or_default}
use Rattle.std.proofs.lemmas.Nat.Bits.{shr_and_one}
use Rattle.bit_rows.proofs.Packed.{packed_row, place_value, row_len}
use Rattle.bit_rows.proofs.row.BitRow.get.Goals as goal

pub returns : goal.returns
returns c =
    let row = c.self.inside in
    let at = c.args.at in
    let len = row_len row.len row.words.items c.args.self.now c.self.view_is in
    let packed = packed_row row.len row.words.items c.args.self.now c.self.view_is c.self.invariant.1 in
    let word = c.index-word.ensures ∙ get_or_default row.words.items (at / 64) c.index-word.result.now 0 (omega (arith, packed.enough)) in
    ap (λ b. eqb b 1) (shr_and_one c.index-word.result.now (at % 64) ∙ ap (λ w. bit_at w (at % 64)) word)
    ∙ place_value row.len row.words.items c.args.self.now c.self.view_is at (omega arith)
