use Rattle.std.proofs.Common.{◌≡◌, ◌≤◌, ◌∙◌, ap, arith, length, map, subst, sym}
use Rattle.std.specs.List.{All}
use Rattle.es_tokens.specs.AreTokens.{AreTokens}
use Rattle.es_scan.specs.Flaws.{fault_of_flaw}
use Rattle.es_scan.specs.inner.State.{IsUpto}
use Rattle.es_scan.proofs.FlawLemmas.{flaws_within}
use Rattle.es_scan.proofs.ScanLemmas.{whole_scan}
use Rattle.es_scan.proofs.WholeLemmas.{starts_within}
use Rattle.es_scan.proofs.scanner.scan.Goals as goal

pub add_all-requires-clause-few : goal.add_all-requires-clause-few
add_all-requires-clause-few c =
    let are : AreTokens c.args.text.now c.args.tokens.now
    = (c.one_list_or_one_fault.ensures.tokens c.args.text.now c.args.tokens.now).1 c.requires.tokens in
    let count : length c.args.tokens.now ≤ length c.args.text.now = c.spans_lie_in_order.ensures.count c.args.text.now c.args.tokens.now are in
    let same : length c.new-2.result.tokens.now ≡ length c.args.tokens.now = ap length c.new-2.ensures.tokens in
    omega (arith, count, same, c.requires.short)

pub place_all-requires : goal.place_all-requires
place_all-requires c =
    let are : AreTokens c.args.text.now c.args.tokens.now
    = (c.one_list_or_one_fault.ensures.tokens c.args.text.now c.args.tokens.now).1 c.requires.tokens in
    let held : IsUpto c.args.text.now c.args.tokens.now (length c.args.tokens.now) c.add_all.new.state
    = subst (λ text. IsUpto text c.args.tokens.now (length c.args.tokens.now) c.add_all.new.state) c.new-2.ensures.text
    (subst (λ tokens. IsUpto c.new-2.result.text.now tokens (length tokens) c.add_all.new.state) c.new-2.ensures.tokens c.in_ok-add_all.ensures) in
    subst (λ flaws. All (λ flaw. flaw.offset ≤ length c.args.text.now) flaws) (sym c.as_slice.ensures)
    (flaws_within (length c.args.text.now) c.args.text.now c.args.tokens.now (length c.args.tokens.now) c.add_all.new.state
    (starts_within c.args.text.now c.args.tokens.now (c.spans_lie_in_order.ensures.order c.args.text.now c.args.tokens.now are)) held)

pub returns : goal.returns
returns c =
    whole_scan c.args.path.now c.args.text.now c.args.tokens.now c.add_all.new.state c.in_ok-place_all.field-0
    (subst (λ text. IsUpto text c.args.tokens.now (length c.args.tokens.now) c.add_all.new.state) c.new-2.ensures.text
    (subst (λ tokens. IsUpto c.new-2.result.text.now tokens (length tokens) c.add_all.new.state) c.new-2.ensures.tokens c.in_ok-add_all.ensures))
    (c.in_ok-place_all.ensures ∙ ap (map (fault_of_flaw c.args.path.now c.args.text.now)) c.as_slice.ensures)
