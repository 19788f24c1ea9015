use Rattle.std.proofs.Common.{sym, ◌∙◌}
use Rattle.std.proofs.lemmas.Bool.{false≢true}
use Rattle.bit_rows.proofs.Packed.{packed_slice}
use Rattle.bit_rows.proofs.Subsets.{subset_from_parts, none_from_subset, zeros_from_subset}
use Rattle.bit_rows.proofs.row.BitRow.is_subset.Goals as goal

pub returns-then-is_none : goal.returns-then-is_none
returns-then-is_none c =
    let own = packed_slice c.self.inside.len c.self.inside.words.items c.args.self.now c.self.view_is c.as_slice-words.result.now c.as_slice-words.ensures.value c.self.invariant.1 in
    let other = packed_slice c.other.inside.len c.other.inside.words.items c.args.other.now c.other.view_is c.as_slice-others.result.now c.as_slice-others.ensures.value c.other.invariant.1 in (
      λ zero. subset_from_parts _ _ c.args.self.now c.args.other.now own other c.min-shared.result c.min-shared.ensures (c.is_none.ensures.0 c.if-is_none.true) (c.are_zero.ensures.0 zero),
      λ subset. c.are_zero.ensures.1 (zeros_from_subset _ _ c.args.self.now c.args.other.now own other c.min-shared.result c.min-shared.ensures subset),
    )

pub returns-else-is_none : goal.returns-else-is_none
returns-else-is_none c =
    let own = packed_slice c.self.inside.len c.self.inside.words.items c.args.self.now c.self.view_is c.as_slice-words.result.now c.as_slice-words.ensures.value c.self.invariant.1 in
    let other = packed_slice c.other.inside.len c.other.inside.words.items c.args.other.now c.other.view_is c.as_slice-others.result.now c.as_slice-others.ensures.value c.other.invariant.1 in (
      λ none. absurd (false≢true (sym c.if-is_none.false ∙ none)),
      λ subset. c.is_none.ensures.1 (none_from_subset _ _ c.args.self.now c.args.other.now own other c.min-shared.result c.min-shared.ensures subset),
    )
