use Rattle.std.proofs.Common.{◌≡◌, map, take}
use Rattle.es_scan.specs.Exports.{specifier_export}
use Rattle.es_scan.proofs.exports.names_exports.Given as goal

abbrev pub invariant-loop-part : goal.invariant-loop-part
invariant-loop-part l = l.exports ≡ map (λ part. specifier_export l.source.text.now l.item part.now) (take l.part-index l.part-items)
