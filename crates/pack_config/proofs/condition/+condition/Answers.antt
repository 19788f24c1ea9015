use Rattle.std.proofs.Common.{ap, ◌∙◌, arith, map}
use Rattle.std.specs.List.{flat_map}
use Rattle.graph_types.specs.declared.condition.Condition.TheVariants as condition
use Rattle.pack_config.specs.Conditions.{condition_at, condition_of, condition_rule, member_of, named_faults}
use Rattle.pack_config.specs.inner.Found.{after}
use Rattle.pack_config.proofs.After.{each_more, mapped_more, kept_more}
use Rattle.pack_config.proofs.Meaning.{list_faults, list_value, many_faults, many_value, object_faults_by, object_value_by}
use Rattle.pack_config.proofs.condition.+condition.Goals as goal

pub condition-returns-in_ok-conditions-in-List-clause-faults : goal.condition-returns-in_ok-conditions-in-List-clause-faults
condition-returns-in_ok-conditions-in-List-clause-faults t c =
    c.in_ok-conditions-in-List.ensures.faults ∙ ap (λ items. after c.args.found.now (flat_map condition_rule items)) c.as_slice.ensures
    ∙ ap (after c.args.found.now) (list_faults c.args.tree.now c.in-List.items c.in-List.is)

pub condition-returns-in_ok-conditions-in-List-clause-value : goal.condition-returns-in_ok-conditions-in-List-clause-value
condition-returns-in_ok-conditions-in-List-clause-value t c =
    ap (λ all. condition.Or all) (c.in_ok-conditions-in-List.ensures.value ∙ ap (map condition_of) c.as_slice.ensures)
    ∙ list_value c.args.tree.now c.in-List.items c.in-List.is

pub condition-returns-in_ok-named-in-Object-clause-faults : goal.condition-returns-in_ok-named-in-Object-clause-faults
condition-returns-in_ok-named-in-Object-clause-faults t c =
    object_faults_by c.args.tree.now c.in-Object.pairs c.as_slice-in-Object.result.now c.in_ok-named-in-Object.named.items c.in-Object.is c.as_slice-in-Object.ensures
    c.in_ok-named-in-Object.ensures.value _ _ _ c.in_ok-named-in-Object.ensures.faults c.only.ensures.faults

pub condition-returns-in_ok-named-in-Object-clause-value : goal.condition-returns-in_ok-named-in-Object-clause-value
condition-returns-in_ok-named-in-Object-clause-value t c =
    object_value_by c.args.tree.now c.in-Object.pairs c.as_slice-in-Object.result.now c.in_ok-named-in-Object.named.items c.in-Object.is c.as_slice-in-Object.ensures
    c.in_ok-named-in-Object.ensures.value _ c.only.ensures.value

pub conditions-loop-tree-preserved : goal.conditions-loop-tree-preserved
conditions-loop-tree-preserved t c = record {
  faults = each_more c.args.trees.now c.loop-tree.tree-index c.tree-item.result (omega arith) c.tree-item.is condition_rule _ _ _ c.loop-tree.invariant.faults c.in_ok-condition.ensures.faults;
  value = mapped_more c.args.trees.now c.loop-tree.tree-index c.tree-item.result (omega arith) c.tree-item.is condition_of _ _ c.in_ok-condition.field-0 c.loop-tree.invariant.value c.in_ok-condition.ensures.value c.in_ok-push.ensures.items;
}

pub named_conditions-loop-pair-preserved : goal.named_conditions-loop-pair-preserved
named_conditions-loop-pair-preserved t c = record {
  faults = each_more c.args.pairs.now c.loop-pair.pair-index c.pair-item.result (omega arith) c.pair-item.is (λ pair. named_faults (member_of pair)) _ _ _ c.loop-pair.invariant.faults c.in_ok-push_named.ensures.faults;
  value = kept_more c.args.pairs.now c.loop-pair.pair-index c.pair-item.result (omega arith) c.pair-item.is (λ pair. condition_at (member_of pair)) _ _ c.loop-pair.invariant.value c.in_ok-push_named.ensures.value;
}

pub listed-returns-in_ok-conditions-in-List-clause-faults : goal.listed-returns-in_ok-conditions-in-List-clause-faults
listed-returns-in_ok-conditions-in-List-clause-faults t c =
    c.in_ok-conditions-in-List.ensures.faults ∙ ap (λ items. after c.args.found.now (flat_map condition_rule items)) c.as_slice.ensures
    ∙ ap (after c.args.found.now) (many_faults c.args.tree.now c.in-List.items c.in-List.is)

pub listed-returns-in_ok-conditions-in-List-clause-value : goal.listed-returns-in_ok-conditions-in-List-clause-value
listed-returns-in_ok-conditions-in-List-clause-value t c =
    c.in_ok-conditions-in-List.ensures.value ∙ ap (map condition_of) c.as_slice.ensures ∙ many_value c.args.tree.now c.in-List.items c.in-List.is
