use Rattle.std.proofs.Common.{◌≡◌, ◌-◌, length, sym, ap, ◌∙◌, arith}
use Rattle.bit_rows.specs.Places.{IsNext, NoneTrue, meet}
use Rattle.chunk_groups.proofs.Marks.{bit-within}
use Rattle.avail_sets.proofs.Commons.{both-true}
use Rattle.avail_sets.proofs.Searching.{last-is, even-more, first-found, more-layers, none-found, minus-fewer, next-none, next-some}
use Rattle.avail_sets.proofs.layering.search.Goals as goal

pub returns-in-Some-clause-in_range : goal.returns-in-Some-clause-in_range
returns-in-Some-clause-in_range c =
    let last = last-is c.deepen.layers.items c.index-last.result.now _ (omega (arith, c.len.ensures)) c.deepen.invariant.sized.some c.index-last.ensures in
    let even : length c.index-last.result.now ≡ length c.args.entries.now =
    ap length last ∙ c.deepen.invariant.sized.layers_len (length c.deepen.layers.items - 1) (omega (arith, c.deepen.invariant.sized.some)) ∙ sym c.deepen.invariant.sized.entries_len in
    let next : IsNext (meet c.index-last.result.now c.args.entries.now) 0 c.in-Some.first = c.in-Some.ensures in
    let both = both-true c.index-last.result.now c.args.entries.now even c.in-Some.first next.is_true in
    omega (arith, bit-within c.args.entries.now c.in-Some.first both.1, c.deepen.invariant.sized.entries_len, c.deepen.invariant.sized.opened_rows)

pub returns-in-Some-clause-found : goal.returns-in-Some-clause-found
returns-in-Some-clause-found c =
    let last = last-is c.deepen.layers.items c.index-last.result.now _ (omega (arith, c.len.ensures)) c.deepen.invariant.sized.some c.index-last.ensures in
    let even : length c.index-last.result.now ≡ length c.args.entries.now =
    ap length last ∙ c.deepen.invariant.sized.layers_len (length c.deepen.layers.items - 1) (omega (arith, c.deepen.invariant.sized.some)) ∙ sym c.deepen.invariant.sized.entries_len in
    λ net g m are count which start.
    first-found net g m c.args.opened.now c.args.entries.now c.deepen.left c.index-last.result.now c.deepen.layers.items are count which (c.deepen.invariant.layered net g m are count which start) last even
    c.in-Some.first c.in-Some.ensures

pub returns-then-is_none-clause-found : goal.returns-then-is_none-clause-found
returns-then-is_none-clause-found c =
    let last = last-is c.deepen.layers.items c.index-last.result.now _ (omega (arith, c.len.ensures)) c.deepen.invariant.sized.some c.index-last.ensures in
    let even : length c.index-last.result.now ≡ length c.args.entries.now =
    ap length last ∙ c.deepen.invariant.sized.layers_len (length c.deepen.layers.items - 1) (omega (arith, c.deepen.invariant.sized.some)) ∙ sym c.deepen.invariant.sized.entries_len in
    let empty : NoneTrue c.in_ok-next.next 0 (length c.in_ok-next.next) =
    next-none (NoneTrue c.in_ok-next.next 0 (length c.in_ok-next.next)) (IsNext c.in_ok-next.next 0) c.next_from.result c.is_none.result c.is_none.ensures c.if-is_none.true c.next_from.ensures in
    λ net g m are count which start.
    none-found net g m c.args.opened.now c.args.entries.now c.deepen.left c.index-last.result.now c.deepen.layers.items are count which (c.deepen.invariant.layered net g m are count which start) last even
    c.in_ok-next.next c.in_ok-next.ensures.len c.in_ok-next.ensures.next c.in_default.ensures empty

pub deepen-smaller : goal.deepen-smaller
deepen-smaller c =
    let (k, next) = next-some (NoneTrue c.in_ok-next.next 0 (length c.in_ok-next.next)) (IsNext c.in_ok-next.next 0) c.next_from.result c.is_none.result c.is_none.ensures c.if-is_none.false c.next_from.ensures in
    let waits = ((c.in_ok-next.ensures.next.says k (omega (arith, bit-within c.in_ok-next.next k next.is_true, c.in_ok-next.ensures.len))).0 next.is_true).0 in
    let fewer = minus-fewer c.deepen.left c.in_ok-next.next k waits next.is_true in
    rw c.minus.ensures.row fewer

pub deepen-preserved : goal.deepen-preserved
deepen-preserved c =
    let last = last-is c.deepen.layers.items c.index-last.result.now _ (omega (arith, c.len.ensures)) c.deepen.invariant.sized.some c.index-last.ensures in
    let even : length c.index-last.result.now ≡ length c.args.entries.now =
    ap length last ∙ c.deepen.invariant.sized.layers_len (length c.deepen.layers.items - 1) (omega (arith, c.deepen.invariant.sized.some)) ∙ sym c.deepen.invariant.sized.entries_len in
    rw (c.in_ok-push.ensures.items, c.minus.ensures.row) (record {
      sized = even-more c.args.opened.now c.args.entries.now c.deepen.left c.in_ok-next.next c.deepen.layers.items c.deepen.invariant.sized c.in_ok-next.ensures.len;
      layered = λ net g m are count which start.
          more-layers net g m c.args.opened.now c.args.entries.now c.deepen.left c.index-last.result.now c.deepen.layers.items are count which (c.deepen.invariant.layered net g m are count which start) last even
          c.in_ok-next.next c.in_ok-next.ensures.len c.in_ok-next.ensures.next c.in_default.ensures;
    })
