use Rattle.std.proofs.Common.{◌<◌, false, length, get_or, inl, inr, ap, sym, ◌∙◌, arith}
use Rattle.std.proofs.Math.ListN.{set}
use Rattle.std.proofs.lemmas.Bool.{cases_eq}
use Rattle.std.proofs.lemmas.List.{get_or_read, get_or-set_same, get_or-set_other, length-set}
use Rattle.graph_types.specs.Condition.{holds}
use Rattle.chunk_graph.specs.Chunks.{is_in}
use Rattle.split_plan.proofs.Places.{map_by_all}
use Rattle.split_plan.proofs.rule.tested.Goals as goal

pub loop-module-preserved : goal.loop-module-preserved
loop-module-preserved c =
    let m = c.loop-module.module in
    let row = c.loop-module.row in
    let recs = c.args.graph.now.records in
    let v = c.holds.result in
    let lt : m < length recs = omega (arith, c.count-module-end.ensures.count) in
    let len : m < length row = omega (arith, lt, c.loop-module.invariant.len) in
    record {
      len = ap length c.set.ensures ∙ length-set row m v ∙ c.loop-module.invariant.len;
      places = λ k d h. ap (λ r. is_in r k) c.set.ensures ∙ elim (cases_eq k m) [
        | inl e ↦ ap (λ j. is_in (set row m v) j) e ∙ get_or-set_same row m v false len ∙ c.holds.ensures
            ∙ ap (λ path. holds path c.args.test.now) (c.get.ensures ∙ ap (λ rec. rec.path) (get_or_read recs m _ lt c.rec.ensures d))
            ∙ ap (λ j. holds (get_or recs j d).path c.args.test.now) (sym e)
        | inr ne ↦ get_or-set_other row m k v false ne ∙ c.loop-module.invariant.places k d (omega arith)
      ];
    }

pub returns : goal.returns
returns c = map_by_all (λ rec. holds rec.path c.args.test.now) c.args.graph.now.records c.loop-module.row false c.loop-module.invariant.len
    (λ k d lt. c.loop-module.invariant.places k d (omega (arith, c.count-module-end.ensures.count)))
