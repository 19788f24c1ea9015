use Rattle.std.proofs.Common.{◌≡◌, take}
use Rattle.std.specs.List.{flat_map}
use Rattle.std.specs.Prelude.{filter_map}
use Rattle.pack_config.specs.Values.{any_text, text_of}
use Rattle.pack_config.specs.inner.Found.{after}
use Rattle.pack_config.proofs.value.listed_texts.Given as goal

abbrev pub invariant-loop-item : goal.invariant-loop-item
invariant-loop-item l = record {
  faults : l.found ≡ after l.fn.found (flat_map any_text (take l.item-index l.items));
  value : l.texts.items ≡ filter_map text_of (take l.item-index l.items);
}
