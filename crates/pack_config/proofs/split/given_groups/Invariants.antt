use Rattle.std.proofs.Common.{◌≡◌, map, take}
use Rattle.std.specs.List.{flat_map, filter}
use Rattle.pack_config.specs.Splits.{group_of, is_group, member_rule}
use Rattle.pack_config.specs.inner.Found.{after}
use Rattle.pack_config.proofs.split.given_groups.Given as goal

abbrev pub invariant-loop-pair : goal.invariant-loop-pair
invariant-loop-pair l = record {
  faults : l.found ≡ after l.fn.found (flat_map member_rule (take l.pair-index l.pairs));
  value : l.groups.items ≡ map (group_of l.places l.base) (filter is_group (take l.pair-index l.pairs));
}
