use Rattle.std.proofs.Common.{◌≡◌, take}
use Rattle.std.specs.List.{flat_map, enumerate_from}
use Rattle.pack_config.specs.Splits.{repeated_at}
use Rattle.pack_config.specs.inner.Found.{after}
use Rattle.pack_config.specs.inner.Seen.{HasNamesOf}
use Rattle.pack_config.proofs.repeated.note_repeated.Given as goal

abbrev pub invariant-loop-pair : goal.invariant-loop-pair
invariant-loop-pair l = record {
  faults : l.found ≡ after l.fn.found (flat_map (repeated_at l.pairs) (take l.pair-index (enumerate_from 0 l.pairs)));
  names : HasNamesOf l.names (take l.pair-index l.pairs);
}
