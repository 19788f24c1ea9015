use Rattle.std.proofs.Common.{◌≡◌, ◌≢◌, Bool, List, length, sym, subst, ap, ◌∙◌, arith}
use Rattle.std.specs.Bool.{MatchBool}
use Rattle.std.specs.Simd.Lanes.{zip2}
use Rattle.std.specs.Vec.{with_items}
use Rattle.std.proofs.lemmas.List.{with_items_is}
use Rattle.std.proofs.lemmas.Simd.{length-zip2}
use Rattle.bit_rows.specs.Packing.{IsPacked}
use Rattle.bit_rows.proofs.Packed.{Holds, holds, packed_slice, packed_combined, changed_rows, same_word_count, row_len}
use Rattle.bit_rows.proofs.row.BitRow.combine_with.Given as given
use Rattle.bit_rows.proofs.row.BitRow.combine_with.Goals as goal

module _ (g : given.Over) (c : goal.After-self-1 g) where
  own : IsPacked c.deref_mut.result.now c.args.self.now
  own = packed_slice c.self.inside.len c.self.inside.words.items c.args.self.now c.self.view_is c.deref_mut.result.now c.deref_mut.ensures.value c.self.invariant.1

  other : IsPacked c.deref.result.now c.args.other.now
  other = packed_slice c.other.inside.len c.other.inside.words.items c.args.other.now c.other.view_is c.deref.result.now c.deref.ensures.value c.other.invariant.1

  even : length c.deref_mut.result.now ≡ length c.deref.result.now
  even = same_word_count c.deref_mut.result.now c.deref.result.now c.args.self.now c.args.other.now c.requires own other

  new : IsPacked c.combine.new.into (zip2 g.O.WordOperation.bit c.args.self.now c.args.other.now)
  new =
      let O = g.O.WordOperation in
      subst (λ (l : List _). IsPacked l (zip2 O.bit c.args.self.now c.args.other.now)) (sym c.combine.ensures.words)
      (packed_combined O.word O.bit g.met.O.WordOperation.works_by_bits _ _ c.args.self.now c.args.other.now even c.requires own other)

  len : length (zip2 g.O.WordOperation.bit c.args.self.now c.args.other.now) ≡ length c.args.self.now
  len = length-zip2 g.O.WordOperation.bit c.args.self.now c.args.other.now c.requires

  combined_row : Holds c.self.inside.len (with_items c.self.inside.words c.combine.new.into).items (zip2 g.O.WordOperation.bit c.args.self.now c.args.other.now)
  combined_row = holds c.self.inside.len _ c.combine.new.into _ c.self.invariant.0 (with_items_is c.self.inside.words c.combine.new.into (omega (arith, c.combine.auto.into, c.deref_mut.ensures.len)))
      (len ∙ row_len c.self.inside.len c.self.inside.words.items c.args.self.now c.self.view_is) new

pub invariant_of-self : goal.invariant_of-self
invariant_of-self g c = (combined_row g c).packed

pub returns-clause-row : goal.returns-clause-row
returns-clause-row g c = (combined_row g c).row_is

pub returns-clause-changed : goal.returns-clause-changed
returns-clause-changed g c =
    subst (λ (r : List Bool). MatchBool c.combine.result (r ≢ c.args.self.now) (r ≡ c.args.self.now)) (sym (combined_row g c).row_is)
    (changed_rows c.combine.result c.deref_mut.result.now c.combine.new.into c.args.self.now _ (len g c) (own g c) (new g c) c.combine.ensures.changed)

pub returns-clause-len : goal.returns-clause-len
returns-clause-len g c = ap length (combined_row g c).row_is ∙ len g c
