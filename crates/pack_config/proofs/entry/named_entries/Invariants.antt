use Rattle.std.proofs.Common.{◌≡◌, map, take}
use Rattle.std.specs.List.{flat_map}
use Rattle.pack_config.specs.Entries.{entry_of, named_rule}
use Rattle.pack_config.specs.inner.Found.{after}
use Rattle.pack_config.proofs.entry.named_entries.Given as goal

abbrev pub invariant-loop-pair : goal.invariant-loop-pair
invariant-loop-pair l = record {
  faults : l.found ≡ after l.initial.found (flat_map named_rule (take l.pair-index l.pairs));
  value : l.entries.items ≡ map (entry_of l.places) (take l.pair-index l.pairs);
}
