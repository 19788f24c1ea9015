use Rattle.std.proofs.Common.{◌≡◌, drop}
use Rattle.std.specs.List.{fold}
use Rattle.std.specs.Option.{option_copied}
use Rattle.pkg_exports.specs.inner.Steps.{better_of}
use Rattle.pkg_exports.specs.Exports.{greatest, matches_of}
use Rattle.pkg_exports.proofs.best.best_match.Given as goal

abbrev pub invariant-loop-pair : goal.invariant-loop-pair
invariant-loop-pair l = fold (better_of l.subpath) (option_copied l.best) (drop l.pair-index l.pairs) ≡ greatest (matches_of l.subpath l.pairs)
