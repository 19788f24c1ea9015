use Rattle.std.proofs.Common.{arith, option_map}
use Rattle.pack_config.specs.Grammar.{alias_member}
use Rattle.pack_config.specs.Values.{text_of}
use Rattle.pack_config.proofs.After.{each_more, kept_more}
use Rattle.pack_config.proofs.resolve.alias.Goals as goal

pub loop-pair-preserved : goal.loop-pair-preserved
loop-pair-preserved c = record {
  faults = each_more _ c.loop-pair.pair-index c.pair-item.result (omega arith) c.pair-item.is alias_member _ _ _ c.loop-pair.invariant.faults c.in_ok-push_alias.ensures.faults;
  value = kept_more _ c.loop-pair.pair-index c.pair-item.result (omega arith) c.pair-item.is (λ pair. option_map (λ target. (pair.key, target)) (text_of pair.value)) _ _ c.loop-pair.invariant.value c.in_ok-push_alias.ensures.value;
}
