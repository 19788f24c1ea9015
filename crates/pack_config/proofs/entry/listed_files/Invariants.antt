use Rattle.std.proofs.Common.{◌≡◌, take}
use Rattle.std.specs.List.{flat_map}
use Rattle.std.specs.Prelude.{filter_map}
use Rattle.pack_config.specs.Entries.{file_of}
use Rattle.pack_config.specs.Values.{any_text}
use Rattle.pack_config.specs.inner.Found.{after}
use Rattle.pack_config.proofs.entry.listed_files.Given as goal

abbrev pub invariant-loop-item : goal.invariant-loop-item
invariant-loop-item l = record {
  faults : l.found ≡ after l.initial.found (flat_map any_text (take l.item-index l.items));
  value : l.files.items ≡ filter_map (file_of l.places) (take l.item-index l.items);
}
