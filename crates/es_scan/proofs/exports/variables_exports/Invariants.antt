use Rattle.std.proofs.Common.{◌≡◌, map, take}
use Rattle.es_scan.specs.Exports.{own_export}
use Rattle.es_scan.proofs.exports.variables_exports.Given as goal

abbrev pub invariant-loop-name : goal.invariant-loop-name
invariant-loop-name l = l.exports ≡ map (λ name. own_export name.now) (take l.name-index l.name-items)
