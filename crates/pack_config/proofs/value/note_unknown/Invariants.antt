use Rattle.std.proofs.Common.{◌≡◌, ◌++◌, List, ℕ, Bor, map, take}
use Rattle.std.specs.List.{flat_map}
use Rattle.pack_config.specs.Values.{unknown_key}
use Rattle.pack_config.specs.inner.Found.{after}
use Rattle.pack_config.proofs.value.note_unknown.Given as goal

abbrev pub invariant-loop-pair : goal.invariant-loop-pair
invariant-loop-pair l =
    l.found
    ≡ after l.fn.found (flat_map (unknown_key (map (λ (key : Bor (List ℕ)). key.now) l.shared ++ map (λ (key : Bor (List ℕ)). key.now) l.own)) (take l.pair-index l.pairs))
