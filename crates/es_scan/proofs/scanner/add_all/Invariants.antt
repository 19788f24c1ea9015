use Rattle.form_shapes.specs.Declaration.{IsDeclaration}
use Rattle.es_scan.specs.inner.State.{IsUpto}
use Rattle.es_scan.proofs.scanner.add_all.Given as goal

abbrev pub invariant-loop-at : goal.invariant-loop-at
invariant-loop-at l =
    IsUpto l.source.text.now l.source.tokens.now l.at l.state × IsDeclaration l.source.text.now l.source.tokens.now l.known
