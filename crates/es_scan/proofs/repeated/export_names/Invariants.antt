use Rattle.std.proofs.Common.{◌≡◌, map, take}
use Rattle.es_scan.proofs.repeated.export_names.Given as goal

abbrev pub invariant-loop-export : goal.invariant-loop-export
invariant-loop-export l = l.names.items ≡ map (λ export. export.name) (take l.export-index l.exports)
