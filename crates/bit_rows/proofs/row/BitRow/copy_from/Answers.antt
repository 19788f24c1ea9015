use Rattle.std.proofs.Common.{sym, ◌∙◌}
use Rattle.bit_rows.proofs.Packed.{Holds, holds, packed_slice, row_len}
use Rattle.bit_rows.proofs.row.BitRow.copy_from.Goals as goal

copied : (c : goal.After-copy_from_slice) → Holds c.self.inside.len c.copy_from_slice.new.self.items c.args.other.now
copied c =
    let own = c.self.inside in
    let other = c.other.inside in
    holds own.len _ c.deref.result.now c.args.other.now c.self.invariant.0 c.copy_from_slice.ensures.items
    (sym c.requires ∙ row_len own.len own.words.items c.args.self.now c.self.view_is)
    (packed_slice other.len other.words.items c.args.other.now c.other.view_is c.deref.result.now c.deref.ensures.value c.other.invariant.1)

pub invariant_of-self : goal.invariant_of-self
invariant_of-self c = (copied c).packed

pub returns : goal.returns
returns c = (copied c).row_is
