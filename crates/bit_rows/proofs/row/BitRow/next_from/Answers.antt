use Rattle.std.proofs.Common.{◌≡◌, ℕ, ◌+◌, ◌*◌, ◌/◌, ◌≤◌, List, sym, subst, ap, ◌∙◌, get_or, length, w64, arith}
use Rattle.std.specs.Int.{trailing_zeros}
use Rattle.std.proofs.lemmas.List.{get_or_default}
use Rattle.bit_rows.proofs.NextPlaces.{next_in_own, next_after_own, none_after_own, true_within}
use Rattle.bit_rows.specs.Places.{IsNext}
use Rattle.bit_rows.specs.Words.{IsNextWord}
use Rattle.bit_rows.proofs.Packed.{packed_row, row_len}
use Rattle.bit_rows.proofs.row.BitRow.next_from.Goals as goal

pub index-requires : goal.index-requires
index-requires c =
    let row = c.self.inside in
    let packed = packed_row row.len row.words.items c.args.self.now c.self.view_is c.self.invariant.1 in
    omega (arith, packed.enough, row_len row.len row.words.items c.args.self.now c.self.view_is)

pub returns-then-at-self : goal.returns-then-at-self
returns-then-at-self c j low high =
    let row = c.self.inside in
    absurd (omega (arith, row_len row.len row.words.items c.args.self.now c.self.view_is))

pub returns-then-rest-ne0 : goal.returns-then-rest-ne0
returns-then-rest-ne0 c =
    let row = c.self.inside in
    let packed = packed_row row.len row.words.items c.args.self.now c.self.view_is c.self.invariant.1 in
    let len = row_len row.len row.words.items c.args.self.now c.self.view_is in
    let word = c.index.ensures ∙ get_or_default row.words.items (c.args.at / 64) c.index.result.now 0 (omega (arith, packed.enough)) in
    next_in_own row.words.items c.args.self.now packed c.args.at _ _ word c.bits_from-rest.ensures.below c.bits_from-rest.ensures.kept c.if-rest-ne0.true c.bits_from-rest.type_inv

pub returns-in_err-k : goal.returns-in_err-k
returns-in_err-k c =
    let row = c.self.inside in
    let packed = packed_row row.len row.words.items c.args.self.now c.self.view_is c.self.invariant.1 in
    let len = row_len row.len row.words.items c.args.self.now c.self.view_is in
    let word = c.index.ensures ∙ get_or_default row.words.items (c.args.at / 64) c.index.result.now 0 (omega (arith, packed.enough)) in
    let zeros : (k : ℕ) → c.args.at / 64 + 1 ≤ k → get_or row.words.items k 0 ≡ 0 = λ k l. ap (λ l. get_or l k 0) (sym c.deref.ensures.value) ∙ c.in_err-k.ensures k l in
    let none = none_after_own row.words.items c.args.self.now packed c.args.at _ _ word c.bits_from-rest.ensures.below c.bits_from-rest.ensures.kept c.if-rest-ne0.false zeros in
    rw c.from_residual.ensures none

pub overflow_cast-result-2 : goal.overflow_cast-result-2
overflow_cast-result-2 c =
    let row = c.self.inside in
    let packed = packed_row row.len row.words.items c.args.self.now c.self.view_is c.self.invariant.1 in
    let next : IsNextWord c.deref.result.now (c.args.at / 64 + 1) c.in_ok-k.k = c.in_ok-k.ensures in
    record { fits = omega (arith, packed.fewest, row_len row.len row.words.items c.args.self.now c.self.view_is, c.self.invariant.0, next.within, ap length c.deref.ensures.value) }

pub overflow_mul-result-2 : goal.overflow_mul-result-2
overflow_mul-result-2 c =
    let row = c.self.inside in
    let packed = packed_row row.len row.words.items c.args.self.now c.self.view_is c.self.invariant.1 in
    let next : IsNextWord c.deref.result.now (c.args.at / 64 + 1) c.in_ok-k.k = c.in_ok-k.ensures in
    record { fits = omega (arith, packed.fewest, row_len row.len row.words.items c.args.self.now c.self.view_is, c.self.invariant.0, next.within, ap length c.deref.ensures.value) }

pub returns : goal.returns
returns c =
    let row = c.self.inside in
    let packed = packed_row row.len row.words.items c.args.self.now c.self.view_is c.self.invariant.1 in
    let len = row_len row.len row.words.items c.args.self.now c.self.view_is in
    let word = c.index.ensures ∙ get_or_default row.words.items (c.args.at / 64) c.index.result.now 0 (omega (arith, packed.enough)) in
    let next = subst (λ (l : List ℕ). IsNextWord l (c.args.at / 64 + 1) c.in_ok-k.k) c.deref.ensures.value c.in_ok-k.ensures in
    let found = c.index-2.ensures ∙ get_or_default row.words.items c.in_ok-k.k c.index-2.result.now 0 next.within in
    next_after_own row.words.items c.args.self.now packed c.args.at _ _ word c.bits_from-rest.ensures.below c.bits_from-rest.ensures.kept c.if-rest-ne0.false c.in_ok-k.k _ found next

pub overflow_add-result-2 : goal.overflow_add-result-2
overflow_add-result-2 c =
    let row = c.self.inside in
    let len = row_len row.len row.words.items c.args.self.now c.self.view_is in
    let is_next : IsNext c.args.self.now c.args.at (64 * c.in_ok-k.k + trailing_zeros w64 c.index-2.result.now) = returns c in
    record { fits = omega (arith, len, c.self.invariant.0, true_within c.args.self.now _ is_next.is_true) }
