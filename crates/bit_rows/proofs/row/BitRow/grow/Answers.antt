use Rattle.std.proofs.Common.{◌≡◌, ◌-◌, ◌++◌, false, length, take, replicate, vec_len, ap, ◌∙◌, arith}
use Rattle.std.proofs.lemmas.List.{length-append, length-replicate, take_all}
use Rattle.bit_rows.proofs.Packed.{Holds, holds, packed_row, packed_grown, row_len}
use Rattle.bit_rows.proofs.row.BitRow.grow.Goals as goal

grown_row : (c : goal.After-self-1) → Holds c.args.len c.resize.new.self.items (c.args.self.now ++ replicate (c.args.len - length c.args.self.now) false)
grown_row c =
    let row = c.self.inside in
    let ws = row.words.items in
    let more = c.args.len - length c.args.self.now in
    let m = c.div_ceil.result in
    let len = row_len row.len ws c.args.self.now c.self.view_is in
    let packed = packed_row row.len ws c.args.self.now c.self.view_is c.self.invariant.1 in
    let held : vec_len row.words ≡ length ws = omega arith in
    let words : c.resize.new.self.items ≡ ws ++ replicate (m - length ws) 0 =
    c.in_ok-resize.ensures.items ∙ ap (λ n. take m ws ++ replicate (m - n) 0) held ∙ ap (λ l. l ++ replicate (m - length ws) 0) (take_all m ws (omega (arith, packed.fewest))) in
    holds c.args.len _ (ws ++ replicate (m - length ws) 0) _ (omega arith) words
    (omega (arith, length-append c.args.self.now (replicate more false), length-replicate more false))
    (packed_grown ws c.args.self.now (m - length ws) more packed (omega (arith, packed.fewest)) (omega (arith, packed.fewest)))

pub invariant_of-self-2 : goal.invariant_of-self-2
invariant_of-self-2 c = (grown_row c).packed

pub returns-clause-ok : goal.returns-clause-ok
returns-clause-ok c = (grown_row c).row_is
