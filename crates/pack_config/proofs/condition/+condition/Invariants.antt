use Rattle.std.proofs.Common.{◌≡◌, map, take}
use Rattle.std.specs.List.{flat_map}
use Rattle.std.specs.Prelude.{filter_map}
use Rattle.pack_config.specs.Conditions.{condition_at, condition_of, condition_rule, member_of, named_faults}
use Rattle.pack_config.specs.inner.Found.{after}
use Rattle.pack_config.proofs.condition.+condition.Given as goal

abbrev pub invariant-conditions-loop-tree : goal.invariant-conditions-loop-tree
invariant-conditions-loop-tree l = record {
  faults : l.found ≡ after l.fn.found (flat_map condition_rule (take l.tree-index l.trees));
  value : l.conditions.items ≡ map condition_of (take l.tree-index l.trees);
}

abbrev pub invariant-named_conditions-loop-pair : goal.invariant-named_conditions-loop-pair
invariant-named_conditions-loop-pair l = record {
  faults : l.found ≡ after l.fn.found (flat_map (λ pair. named_faults (member_of pair)) (take l.pair-index l.pairs));
  value : l.conditions.items ≡ filter_map (λ pair. condition_at (member_of pair)) (take l.pair-index l.pairs);
}
