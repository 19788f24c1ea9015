use Rattle.std.proofs.Common.{map, arith}
use Rattle.std.specs.List.{filter}
use Rattle.pack_config.specs.Splits.{group_of, is_group, member_rule}
use Rattle.pack_config.proofs.After.{each_more, made_more}
use Rattle.pack_config.proofs.Totals.{groups_join}
use Rattle.pack_config.proofs.split.given_groups.Goals as goal

pub loop-pair-preserved : goal.loop-pair-preserved
loop-pair-preserved c = record {
  faults = each_more c.args.pairs.now c.loop-pair.pair-index c.pair-item.result (omega arith) c.pair-item.is member_rule _ _ _ c.loop-pair.invariant.faults c.in_ok-push_group.ensures.faults;
  value = made_more c.args.pairs.now c.loop-pair.pair-index c.pair-item.result (omega arith) c.pair-item.is (λ ys. map (group_of c.args.places.now c.args.base) (filter is_group ys))
      (groups_join c.args.places.now c.args.base) _ _ c.loop-pair.invariant.value
      c.in_ok-push_group.ensures.value;
}
