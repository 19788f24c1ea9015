use Rattle.std.proofs.Common.{◌≡◌, ◌+◌, ◌++◌, [], ◌∷◌, map, get_or, sym, ap, ◌∙◌, arith}
use Rattle.std.proofs.lemmas.List.Sums.{count_by_more_yes, count_by_more_no}
use Rattle.std.proofs.lemmas.List.FromFn.{map-range_with_len_more}
use Rattle.std.specs.List.{range_with_len}
use Rattle.graph_types.specs.declared.item.Item.{Item}
use Rattle.graph_types.specs.Whole.{declares}
use Rattle.module_code.specs.Numbers.{loads_before}
use Rattle.module_code.proofs.numbers.load_numbers.Goals as goal
use Rattle.module_code.proofs.numbers.load_numbers.Goals.{then-declares, else-declares}

pub loop-item-preserved : goal.loop-item-preserved
loop-item-preserved c =
    let items = c.args.items.now in
    let i = c.loop-item.item-index in
    let item = c.item-item.result in
    let p = λ (one : Item). declares one.kind in
    let front = map (loads_before items) (range_with_len 0 i) in
    let within = c.loop-item-test.true in
    let test : p (get_or items i item) ≡ c.declares.result = ap p (sym c.item-item.is) ∙ sym c.declares.ensures in
    let listed : c.push.new.self.items ≡ map (loads_before items) (range_with_len 0 (i + 1)) =
    c.in_ok-push.ensures.items ∙ ap (λ list. list ++ c.loop-item.count ∷ []) c.loop-item.invariant.listed
    ∙ ap (λ count. front ++ count ∷ []) c.loop-item.invariant.counted ∙ sym (map-range_with_len_more (loads_before items) 0 i i (omega arith)) in
    elim c.if-declares.branch [
      | then-declares w ↦ record {
        counted = w.count-is ∙ ap (λ count. count + 1) c.loop-item.invariant.counted ∙ sym (count_by_more_yes p items i item within (test ∙ w.if-declares.true));
        bounded = omega (arith, c.loop-item.invariant.bounded);
        listed = listed;
      }
      | else-declares w ↦ record {
        counted = w.count-is ∙ c.loop-item.invariant.counted ∙ sym (count_by_more_no p items i item within (test ∙ w.if-declares.false));
        bounded = omega (arith, c.loop-item.invariant.bounded);
        listed = listed;
      }
    ]
