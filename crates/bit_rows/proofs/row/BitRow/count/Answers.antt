use Rattle.std.proofs.Common.{◌∙◌, ap, length, arith}
use Rattle.std.specs.List.{sum_by}
use Rattle.std.specs.Prelude.{count_ones}
use Rattle.std.proofs.lemmas.List.Sums.{count_by-le-length}
use Rattle.bit_rows.proofs.Packed.{packed_row, row_len, count_of_packed}
use Rattle.bit_rows.proofs.row.BitRow.count.Goals as goal

pub count_of_ones-requires : goal.count_of_ones-requires
count_of_ones-requires c =
    let row = c.self.inside in
    let packed = packed_row row.len row.words.items c.args.self.now c.self.view_is c.self.invariant.1 in
    omega (arith, row_len row.len row.words.items c.args.self.now c.self.view_is, c.self.invariant.0, packed.fewest, ap length c.deref.ensures.value)

pub returns : goal.returns
returns c =
    let row = c.self.inside in
    let packed = packed_row row.len row.words.items c.args.self.now c.self.view_is c.self.invariant.1 in
    c.count_of_ones.ensures ∙ ap (sum_by count_ones) c.deref.ensures.value ∙ count_of_packed row.words.items c.args.self.now packed

pub overflow_cast-result : goal.overflow_cast-result
overflow_cast-result c =
    let row = c.self.inside in
    let packed = packed_row row.len row.words.items c.args.self.now c.self.view_is c.self.invariant.1 in
    let is = c.count_of_ones.ensures ∙ ap (sum_by count_ones) c.deref.ensures.value ∙ count_of_packed row.words.items c.args.self.now packed in
    record { fits = omega (arith, is, count_by-le-length (λ x. x) c.args.self.now, row_len row.len row.words.items c.args.self.now c.self.view_is, c.self.invariant.0) }
