use Rattle.std.proofs.Common.{◌≡◌, ℕ, ◌+◌, ◌-◌, ◌<◌, [], length, get_or, sym, ap, subst, ◌∙◌, arith}
use Rattle.std.specs.Prelude.{IsTrue}
use Rattle.std.proofs.lemmas.List.{get_or_default}
use Rattle.bit_rows.specs.Places.{IsNext, meet}
use Rattle.chunk_groups.proofs.Marks.{bit-within}
use Rattle.chunk_groups.specs.Rows.{bit_in}
use Rattle.avail_sets.proofs.Commons.{both-true}
use Rattle.avail_sets.proofs.Reading.{Reads, reads-first, reads-more, reads-all, not-none}
use Rattle.avail_sets.proofs.reasons.read_forward.Goals as goal

pub loop-below-init : goal.loop-below-init
loop-below-init c = record {
  within = omega (arith, c.requires.some);
  in_range = c.requires.in_range;
  reads = λ net g m left are a inside.
      let first = reads-first net g m c.args.layers.now left c.args.opened.now.rows are a c.args.first inside in
      rw (c.in_ok-push.ensures.items, c.new-members.ensures.items) first;
}

pub returns-in_default : goal.returns-in_default
returns-in_default c =
    let layer : c.index-layers-below.result ≡ get_or c.args.layers.now (c.loop-below.below - 1) [] =
    c.index-layers-below.is ∙ get_or_default c.args.layers.now (c.loop-below.below - 1) c.index-layers-below.result [] (omega (arith, c.loop-below.invariant.within)) in
    let even : length c.row.result.now ≡ length c.index-layers-below.result =
    c.row.ensures.len ∙ sym (ap length layer ∙ c.requires.even.1 (c.loop-below.below - 1) (omega (arith, c.loop-below.invariant.within))) in
    let above : c.loop-below.below - 1 + 1 ≡ c.loop-below.below = omega (arith, c.loop-below-test.true) in
    let inside : c.loop-below.below - 1 + 1 < length c.args.layers.now = omega (arith, above, c.loop-below.invariant.within) in
    λ net g m left are a start.
    let (done, listed, here, so_far) = c.loop-below.invariant.reads net g m left are a start in
    absurd (not-none net g m c.args.layers.now left c.args.opened.now.rows are a (c.loop-below.below - 1) c.loop-below.at c.row.result.now c.index-layers-below.result c.row.ensures.row layer even inside
    (subst (λ (i : ℕ). IsTrue (bit_in c.args.layers.now i c.loop-below.at)) (sym above) here) c.in_default.ensures)

pub loop-below-preserved : goal.loop-below-preserved
loop-below-preserved c =
    let layer : c.index-layers-below.result ≡ get_or c.args.layers.now (c.loop-below.below - 1) [] =
    c.index-layers-below.is ∙ get_or_default c.args.layers.now (c.loop-below.below - 1) c.index-layers-below.result [] (omega (arith, c.loop-below.invariant.within)) in
    let even : length c.row.result.now ≡ length c.index-layers-below.result =
    c.row.ensures.len ∙ sym (ap length layer ∙ c.requires.even.1 (c.loop-below.below - 1) (omega (arith, c.loop-below.invariant.within))) in
    let above : c.loop-below.below - 1 + 1 ≡ c.loop-below.below = omega (arith, c.loop-below-test.true) in
    let inside : c.loop-below.below - 1 + 1 < length c.args.layers.now = omega (arith, above, c.loop-below.invariant.within) in
    let next : IsNext (meet c.row.result.now c.index-layers-below.result) 0 c.in-Some.next = c.in-Some.ensures in
    let both = both-true c.row.result.now c.index-layers-below.result even c.in-Some.next next.is_true in
    record {
      within = omega (arith, inside);
      in_range = omega (arith, bit-within c.row.result.now c.in-Some.next both.0, c.row.ensures.len, c.requires.even.0);
      reads = λ net g m left are a start.
          let before = subst (λ (i : ℕ). Reads net g m c.args.layers.now c.loop-below.members.items c.args.first i c.loop-below.at) (sym above) (c.loop-below.invariant.reads net g m left are a start) in
          let more = reads-more net g m c.args.layers.now left c.args.opened.now.rows are a (c.loop-below.below - 1) c.loop-below.at c.row.result.now c.index-layers-below.result c.row.ensures.row layer even inside
          c.args.first c.in-Some.next c.loop-below.members.items before next in
          rw c.in_ok-push-2.ensures.items more;
    }

pub returns : goal.returns
returns c =
    let none : c.loop-below.below ≡ 0 = omega (arith, c.loop-below-test.false) in
    λ net g m left are a start.
    let before = subst (λ (i : ℕ). Reads net g m c.args.layers.now c.loop-below.members.items c.args.first i c.loop-below.at) none (c.loop-below.invariant.reads net g m left are a start) in
    reads-all net g m c.args.layers.now left c.args.opened.now.rows are a c.args.first c.loop-below.at c.loop-below.members.items before
