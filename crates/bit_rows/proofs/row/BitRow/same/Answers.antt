use Rattle.std.proofs.Common.{◌≡◌, sym, ap, ◌∙◌, length}
use Rattle.std.proofs.lemmas.Bool.{eqb-true}
use Rattle.bit_rows.specs.Packing.{IsPacked}
use Rattle.bit_rows.proofs.Packed.{packed_slice, row_len, same_word_count, rows_of_same, words_of_same}
use Rattle.bit_rows.proofs.Subsets.{same_from_none, none_from_same}
use Rattle.bit_rows.proofs.row.BitRow.same.Goals as goal

module _ (c : goal.After-deref-then-self-other) where
  own : IsPacked c.deref.result.now c.args.self.now
  own = packed_slice c.self.inside.len c.self.inside.words.items c.args.self.now c.self.view_is c.deref.result.now c.deref.ensures.value c.self.invariant.1

  other : IsPacked c.deref-then-self-other.result.now c.args.other.now
  other = packed_slice c.other.inside.len c.other.inside.words.items c.args.other.now c.other.view_is c.deref-then-self-other.result.now c.deref-then-self-other.ensures.value c.other.invariant.1

  even : length c.args.self.now ≡ length c.args.other.now
  even =
      row_len c.self.inside.len c.self.inside.words.items c.args.self.now c.self.view_is ∙ c.if-self-other.true
      ∙ sym (row_len c.other.inside.len c.other.inside.words.items c.args.other.now c.other.view_is)

pub is_none-requires : goal.is_none-requires
is_none-requires c = same_word_count _ _ c.args.self.now c.args.other.now (even c) (own c) (other c)

pub returns-then-self-other : goal.returns-then-self-other
returns-then-self-other c =
    let before = c.before in
    let count = same_word_count _ _ c.args.self.now c.args.other.now (even before) (own before) (other before) in (
      λ none. rows_of_same _ _ c.args.self.now c.args.other.now (even before) (same_from_none _ _ count (c.is_none.ensures.0 none)) (own before) (other before),
      λ same. c.is_none.ensures.1 (none_from_same _ _ (words_of_same _ _ c.args.self.now c.args.other.now same (own before) (other before))),
    )

pub returns-else-self-other : goal.returns-else-self-other
returns-else-self-other c = (
  λ same. absurd (c.if-self-other.false (eqb-true c.self.inside.len c.other.inside.len same)),
  λ same. absurd (c.if-self-other.false (sym (row_len c.self.inside.len c.self.inside.words.items c.args.self.now c.self.view_is) ∙ ap length same
      ∙ row_len c.other.inside.len c.other.inside.words.items c.args.other.now c.other.view_is)),
)
