use Rattle.std.proofs.Common.{◌≡◌, take, option_map}
use Rattle.std.specs.List.{flat_map}
use Rattle.std.specs.Prelude.{filter_map}
use Rattle.pack_config.specs.Grammar.{alias_member}
use Rattle.pack_config.specs.Values.{text_of}
use Rattle.pack_config.specs.inner.Found.{after}
use Rattle.pack_config.proofs.resolve.alias.Given as goal

abbrev pub invariant-loop-pair : goal.invariant-loop-pair
invariant-loop-pair l = record {
  faults : l.found ≡ after l.fn.found (flat_map alias_member (take l.pair-index l.pairs));
  value : l.aliases.items ≡ filter_map (λ pair. option_map (λ target. (pair.key, target)) (text_of pair.value)) (take l.pair-index l.pairs);
}
