use Rattle.std.proofs.Common.{ℕ, List, ◌∙◌, ap, sym, arith}
use Rattle.asset_names.proofs.Firsts.{firsts-more, found-more, clashes_before-all}
use Rattle.asset_names.proofs.clash.clashes.Goals as goal

pub loop-id-preserved : goal.loop-id-preserved
loop-id-preserved c =
    let member = c.loop-id-item.result in
    let id = ap (λ (m : ℕ × List ℕ). m.0) c.loop-id-item.is in
    let name = c.get.ensures ∙ ap (λ (m : ℕ × List ℕ). m.1) c.loop-id-item.is in
    let again = c.get-in-loop-id.ensures ∙ sym c.get.ensures in
    record {
      found = found-more c.args.config_path.now c.args.named.now c.loop-id.id-index member.0 member c.get.result.now c.in_ok-first.first c.loop-id.faults.items c.push_clashes.new.faults.items
          c.loop-id-test.true id name (c.in_ok-first.ensures.first ∙ c.loop-id.invariant.firsts c.get.result.now) c.loop-id.invariant.found (rw again at c.in_ok-push_clashes.ensures);
      firsts = λ other. firsts-more c.args.named.now c.loop-id.id-index member.0 member c.get.result.now other _ _ c.loop-id-test.true id name (c.loop-id.invariant.firsts other) (c.in_ok-first.ensures.kept other);
    }

pub returns : goal.returns
returns c =
    c.loop-id.invariant.found
    ∙ clashes_before-all c.args.config_path.now c.args.named.now c.loop-id.id-index (omega (arith, c.loop-id-test.false, c.loop-id.auto.id-index-end))
