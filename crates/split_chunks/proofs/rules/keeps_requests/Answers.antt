use Rattle.std.proofs.Common.{◌||◌, not, sym, ap, ◌∙◌}
use Rattle.std.specs.List.{list_all}
use Rattle.split_plan.specs.Shares.{is_full}
use Rattle.split_chunks.proofs.Kept.{requests-row}
use Rattle.split_chunks.proofs.rules.keeps_requests.Goals as goal

pub returns : goal.returns
returns c =
    let rule = c.args.rule.now in
    let s = c.args.state.now in
    c.are_in.ensures ∙ requests-row rule s _ c.args.chunks.now c.in_ok-allowed.ensures c.requires
    ∙ ap (λ b. b || list_all (λ d. not (is_full rule s d.0)) c.args.chunks.now) (sym c.if-forced.false)
