use Rattle.std.proofs.Common.{◌≡◌, subst, length, arith}
use Rattle.es_scan.specs.inner.State.{IsUpto}
use Rattle.es_scan.proofs.scanner.add_all.Goals as goal

pub returns : goal.returns
returns c =
    let end : c.loop-at.at ≡ length c.args.source.tokens.now = omega (arith, c.loop-at-test.false, c.loop-at.auto.at-end) in
    subst (λ n. IsUpto c.args.source.text.now c.args.source.tokens.now n c.loop-at.state) end c.loop-at.invariant.0
