use Rattle.std.proofs.Common.{◌<◌, false, length, inl, inr, ap, sym, ◌∙◌, arith}
use Rattle.std.proofs.Math.ListN.{set}
use Rattle.std.proofs.lemmas.Bool.{cases_eq}
use Rattle.std.proofs.lemmas.List.{get_or-set_same, get_or-set_other, length-set}
use Rattle.std.proofs.lemmas.List.FromFn.{fill_by_all}
use Rattle.chunk_graph.specs.Chunks.{is_in}
use Rattle.split_plan.specs.Shares.{may_share}
use Rattle.split_plan.specs.inner.Rows.{reached_in}
use Rattle.split_plan.proofs.Places.{may_share_from, full_from}
use Rattle.split_plan.proofs.allowed.allowed_chunks.Goals as goal

pub loop-i-preserved : goal.loop-i-preserved
loop-i-preserved c =
    let s = c.args.state.now in
    let rule = c.args.rule.now in
    let row = c.loop-i.row in
    let m = c.loop-i.i in
    let v = c.may_share.result in
    let len : m < length row = omega (arith, c.loop-i.invariant.len) in
    let full = full_from rule s m _ _ _ c.either-is_full.ensures
    (c.in_ok-full_initial.ensures.at m ∙ ap (λ e. reached_in rule.max_initial 0 e s m) c.entry_count-entries.ensures)
    (c.in_ok-full_async.ensures.at m ∙ ap (λ e. reached_in rule.max_async e c.group_count.result s m) c.entry_count-entries.ensures ∙ ap (λ e. reached_in rule.max_async s.entries e s m) c.group_count.ensures) in
    let eq = may_share_from rule c.args.forced s m _ _ _ v c.may_share.ensures c.is_open-is_open.ensures (c.get.ensures ∙ c.in_ok-in_entry.ensures.at m) full in
    record {
      len = ap length c.set.ensures ∙ length-set row m v ∙ c.loop-i.invariant.len;
      places = λ k h. ap (λ r. is_in r k) c.set.ensures ∙ elim (cases_eq k m) [
        | inl e ↦ ap (λ j. is_in (set row m v) j) e ∙ get_or-set_same row m v false len ∙ eq ∙ ap (λ j. may_share rule c.args.forced s j) (sym e)
        | inr ne ↦ get_or-set_other row m k v false ne ∙ c.loop-i.invariant.places k (omega arith)
      ];
    }

pub returns : goal.returns
returns c =
    fill_by_all (may_share c.args.rule.now c.args.forced c.args.state.now) c.loop-i.row (length c.args.state.now.chunks) false c.loop-i.invariant.len
    (λ k lt. c.loop-i.invariant.places k (omega arith))
