use Rattle.std.proofs.Common.{arith}
use Rattle.pack_config.specs.Entries.{entry_of, named_rule}
use Rattle.pack_config.proofs.After.{each_more, mapped_more}
use Rattle.pack_config.proofs.entry.named_entries.Goals as goal

pub loop-pair-preserved : goal.loop-pair-preserved
loop-pair-preserved c = record {
  faults = each_more c.args.pairs.now c.loop-pair.pair-index c.pair-item.result (omega arith) c.pair-item.is named_rule _ _ _ c.loop-pair.invariant.faults c.in_ok-named_entry.ensures.faults;
  value = mapped_more c.args.pairs.now c.loop-pair.pair-index c.pair-item.result (omega arith) c.pair-item.is (entry_of c.args.places.now) _ _ c.in_ok-named_entry.field-0 c.loop-pair.invariant.value
      c.in_ok-named_entry.ensures.value c.in_ok-push.ensures.items;
}
