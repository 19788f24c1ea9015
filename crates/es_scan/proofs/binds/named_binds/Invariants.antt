use Rattle.std.proofs.Common.{◌≡◌, map, take}
use Rattle.es_scan.specs.Binds.{named_bind}
use Rattle.es_scan.proofs.binds.named_binds.Given as goal

abbrev pub invariant-loop-part : goal.invariant-loop-part
invariant-loop-part l = l.binds ≡ map (λ part. named_bind l.source.text.now l.item part.now) (take l.part-index l.part-items)
