use Rattle.std.proofs.Common.{arith}
use Rattle.pack_config.specs.Entries.{file_of}
use Rattle.pack_config.specs.Values.{any_text}
use Rattle.pack_config.proofs.After.{each_more, kept_more}
use Rattle.pack_config.proofs.entry.listed_files.Goals as goal

pub loop-item-preserved : goal.loop-item-preserved
loop-item-preserved c = record {
  faults = each_more c.args.items.now c.loop-item.item-index c.item-item.result (omega arith) c.item-item.is any_text _ _ _ c.loop-item.invariant.faults c.in_ok-push_file.ensures.faults;
  value = kept_more c.args.items.now c.loop-item.item-index c.item-item.result (omega arith) c.item-item.is (file_of c.args.places.now) _ _ c.loop-item.invariant.value
      c.in_ok-push_file.ensures.value;
}
