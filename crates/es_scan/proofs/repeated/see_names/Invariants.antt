use Rattle.std.proofs.Common.{◌≡◌, ◌++◌, ℕ, List, take}
use Rattle.es_scan.specs.Flaws.{repeats}
use Rattle.es_scan.specs.inner.Seen.{HasNames}
use Rattle.es_scan.proofs.repeated.see_names.Given as goal

abbrev pub invariant-loop-name : goal.invariant-loop-name
invariant-loop-name l = (earlier : List (List ℕ)) → HasNames l.initial.seen earlier
    → (l.flaws ≡ l.initial.flaws ++ repeats l.offset earlier (take l.name-index l.names))
    × HasNames l.seen (earlier ++ take l.name-index l.names)
