use Rattle.std.proofs.Common.{◌≢◌, ℕ, ◌<◌, ◌&&◌, false, [], length, inl, inr, ap, sym, ◌∙◌, arith}
use Rattle.std.proofs.Math.ListN.{set}
use Rattle.std.proofs.lemmas.Bool.{cases_eq, cases_lt, and_left}
use Rattle.std.proofs.lemmas.List.{get_or_read, get_or-set_same, get_or-set_other, length-set}
use Rattle.std.proofs.lemmas.List.FromFn.{fill_by_all}
use Rattle.chunk_graph.specs.Chunks.{is_in}
use Rattle.split_plan.specs.Candidates.{lies_in}
use Rattle.split_plan.specs.Shares.{meets}
use Rattle.split_plan.specs.inner.Search.{goes_with}
use Rattle.split_plan.proofs.Places.{is_in-below}
use Rattle.split_plan.proofs.unnamed.modules_of.Goals as goal

pub returns : goal.returns
returns c =
    let mods = c.args.mods.now in
    let at = c.loop-module.at in
    let f = λ (m : ℕ). is_in mods m && goes_with c.args.rule.now c.args.shares.now c.args.set.now m in
    fill_by_all f c.loop-module.row (length c.args.shares.now) false (c.loop-module.invariant.len ∙ c.requires.mods)
    (λ m lt. elim (cases_lt m at) [
      | inl l ↦ c.loop-module.invariant.done m l
      | inr ge ↦ c.loop-module.invariant.left m ge ∙ sym (and_left (is_in mods m) _ (c.in_default.ensures m ge (omega (arith, lt, c.requires.mods))))
    ])

pub loop-module-preserved : goal.loop-module-preserved
loop-module-preserved c =
    let mods = c.args.mods.now in
    let row = c.loop-module.row in
    let at = c.loop-module.at in
    let n = c.in-Some.module in
    let v = c.goes_with.result in
    let next = c.in-Some.ensures in
    let low = next.not_below in
    let lt : n < length mods = is_in-below mods n next.is_true in
    let len : n < length row = omega (arith, lt, c.loop-module.invariant.len) in
    let share = get_or_read c.args.shares.now n _ (omega (arith, lt, c.requires.mods)) c.index-shares-module.is [] in
    let value = c.goes_with.ensures ∙ ap (λ r. meets c.args.rule.now n && lies_in c.args.set.now r) share in
    record {
      bound = omega (arith, lt);
      len = ap length c.set.ensures ∙ length-set row n v ∙ c.loop-module.invariant.len;
      done = λ m h. ap (λ r. is_in r m) c.set.ensures ∙ elim (cases_eq m n) [
        | inl e ↦ ap (λ j. is_in (set row n v) j) e ∙ get_or-set_same row n v false len ∙ value
            ∙ sym (ap (λ b. b && goes_with c.args.rule.now c.args.shares.now c.args.set.now n) next.is_true)
            ∙ ap (λ j. is_in mods j && goes_with c.args.rule.now c.args.shares.now c.args.set.now j) (sym e)
        | inr ne ↦ get_or-set_other row n m v false ne ∙ elim (cases_lt m at) [
          | inl l ↦ c.loop-module.invariant.done m l
          | inr ge ↦ c.loop-module.invariant.left m ge ∙ sym (and_left (is_in mods m) _ (next.least m ge (omega arith)))
        ]
      ];
      left = λ m h. let ne : m ≢ n = omega arith in
          ap (λ r. is_in r m) c.set.ensures ∙ get_or-set_other row n m v false ne ∙ c.loop-module.invariant.left m (omega arith);
    }
