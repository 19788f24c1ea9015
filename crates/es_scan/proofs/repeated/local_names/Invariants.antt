use Rattle.std.proofs.Common.{◌≡◌, map, take}
use Rattle.es_scan.proofs.repeated.local_names.Given as goal

abbrev pub invariant-loop-bind : goal.invariant-loop-bind
invariant-loop-bind l = l.names.items ≡ map (λ bind. bind.local) (take l.bind-index l.binds)
