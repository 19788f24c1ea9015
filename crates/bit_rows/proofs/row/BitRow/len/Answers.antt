use Rattle.std.proofs.Common.{length, sym, ap, ◌∙◌}
use Rattle.bit_rows.proofs.Packed.{length-row_of}
use Rattle.bit_rows.proofs.row.BitRow.len.Goals as goal

pub returns : goal.returns
returns c =
    let row = c.self.inside in
    sym (length-row_of row.len row.words.items) ∙ ap length c.self.view_is
