use Rattle.std.proofs.Common.{◌≡◌, ◌+◌, ◌*◌, ◌&&◌, sym, ap, ◌∙◌, get_or, length, w64, arith, bit_and}
use Rattle.std.specs.Int.{trailing_zeros}
use Rattle.std.proofs.lemmas.List.{get_or_default}
use Rattle.std.proofs.lemmas.Simd.{length-zip2}
use Rattle.bit_rows.specs.Packing.{IsPacked}
use Rattle.bit_rows.specs.Places.{IsNext, meet}
use Rattle.bit_rows.specs.Words.{GivesFirst}
use Rattle.bit_rows.proofs.CommonPlaces.{none_common, next_common}
use Rattle.bit_rows.proofs.NextPlaces.{true_within}
use Rattle.bit_rows.proofs.Packed.{packed_slice, same_word_count, row_len}
use Rattle.bit_rows.proofs.row.BitRow.first_common.Goals as goal

pub first_of_some-requires : goal.first_of_some-requires
first_of_some-requires c =
    let own : IsPacked c.deref.result.now c.args.self.now =
    packed_slice c.self.inside.len c.self.inside.words.items c.args.self.now c.self.view_is c.deref.result.now c.deref.ensures.value c.self.invariant.1 in
    let other : IsPacked c.deref-2.result.now c.args.other.now =
    packed_slice c.other.inside.len c.other.inside.words.items c.args.other.now c.other.view_is c.deref-2.result.now c.deref-2.ensures.value c.other.invariant.1 in
    same_word_count _ _ c.args.self.now c.args.other.now c.requires own other

pub returns-in_err-k : goal.returns-in_err-k
returns-in_err-k c =
    let own : IsPacked c.deref.result.now c.args.self.now =
    packed_slice c.self.inside.len c.self.inside.words.items c.args.self.now c.self.view_is c.deref.result.now c.deref.ensures.value c.self.invariant.1 in
    let other : IsPacked c.deref-2.result.now c.args.other.now =
    packed_slice c.other.inside.len c.other.inside.words.items c.args.other.now c.other.view_is c.deref-2.result.now c.deref-2.ensures.value c.other.invariant.1 in
    let none = none_common _ _ c.args.self.now c.args.other.now c.requires own other c.in_err-k.ensures in
    rw c.from_residual.ensures none

pub overflow_cast-result : goal.overflow_cast-result
overflow_cast-result c =
    let own : IsPacked c.deref.result.now c.args.self.now =
    packed_slice c.self.inside.len c.self.inside.words.items c.args.self.now c.self.view_is c.deref.result.now c.deref.ensures.value c.self.invariant.1 in
    let other : IsPacked c.deref-2.result.now c.args.other.now =
    packed_slice c.other.inside.len c.other.inside.words.items c.args.other.now c.other.view_is c.deref-2.result.now c.deref-2.ensures.value c.other.invariant.1 in
    let first : GivesFirst bit_and c.deref.result.now c.deref-2.result.now c.in_ok-k.k = c.in_ok-k.ensures in
    record { fits = omega (arith, own.fewest, first.within, row_len c.self.inside.len c.self.inside.words.items c.args.self.now c.self.view_is, c.self.invariant.0) }

pub overflow_mul-result : goal.overflow_mul-result
overflow_mul-result c =
    let own : IsPacked c.deref.result.now c.args.self.now =
    packed_slice c.self.inside.len c.self.inside.words.items c.args.self.now c.self.view_is c.deref.result.now c.deref.ensures.value c.self.invariant.1 in
    let other : IsPacked c.deref-2.result.now c.args.other.now =
    packed_slice c.other.inside.len c.other.inside.words.items c.args.other.now c.other.view_is c.deref-2.result.now c.deref-2.ensures.value c.other.invariant.1 in
    let first : GivesFirst bit_and c.deref.result.now c.deref-2.result.now c.in_ok-k.k = c.in_ok-k.ensures in
    record { fits = omega (arith, own.fewest, first.within, row_len c.self.inside.len c.self.inside.words.items c.args.self.now c.self.view_is, c.self.invariant.0) }

pub returns : goal.returns
returns c =
    let own : IsPacked c.deref.result.now c.args.self.now =
    packed_slice c.self.inside.len c.self.inside.words.items c.args.self.now c.self.view_is c.deref.result.now c.deref.ensures.value c.self.invariant.1 in
    let other : IsPacked c.deref-2.result.now c.args.other.now =
    packed_slice c.other.inside.len c.other.inside.words.items c.args.other.now c.other.view_is c.deref-2.result.now c.deref-2.ensures.value c.other.invariant.1 in
    let first : GivesFirst bit_and c.deref.result.now c.deref-2.result.now c.in_ok-k.k = c.in_ok-k.ensures in
    let even : length c.deref.result.now ≡ length c.deref-2.result.now = same_word_count _ _ c.args.self.now c.args.other.now c.requires own other in
    let mine : c.index.result.now ≡ get_or c.deref.result.now c.in_ok-k.k 0 =
    c.index.ensures ∙ get_or_default c.self.inside.words.items c.in_ok-k.k c.index.result.now 0 (omega (arith, first.within, c.deref.ensures.len)) ∙ ap (λ ws. get_or ws c.in_ok-k.k 0) (sym c.deref.ensures.value) in
    let theirs : c.index-2.result.now ≡ get_or c.deref-2.result.now c.in_ok-k.k 0 =
    c.index-2.ensures ∙ get_or_default c.other.inside.words.items c.in_ok-k.k c.index-2.result.now 0 (omega (arith, first.within, even, c.deref-2.ensures.len)) ∙ ap (λ ws. get_or ws c.in_ok-k.k 0) (sym c.deref-2.ensures.value) in
    next_common _ _ c.args.self.now c.args.other.now c.requires own other c.in_ok-k.k _ (ap (λ w. bit_and w c.index-2.result.now) mine ∙ ap (bit_and (get_or c.deref.result.now c.in_ok-k.k 0)) theirs) first

pub overflow_add-result : goal.overflow_add-result
overflow_add-result c =
    let is_next : IsNext (meet c.args.self.now c.args.other.now) 0 (64 * c.in_ok-k.k + trailing_zeros w64 (bit_and c.index.result.now c.index-2.result.now)) = returns c in
    let wide = length-zip2 (λ x y. x && y) c.args.self.now c.args.other.now c.requires in
    record { fits = omega (arith, wide, row_len c.self.inside.len c.self.inside.words.items c.args.self.now c.self.view_is, c.self.invariant.0, true_within (meet c.args.self.now c.args.other.now) _ is_next.is_true) }
