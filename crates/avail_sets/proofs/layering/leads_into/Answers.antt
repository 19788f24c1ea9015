use Rattle.std.proofs.Common.{◌≡◌, Bool, List, sym, ◌∙◌, subst}
use Rattle.std.specs.Prelude.{IsTrue}
use Rattle.chunk_groups.specs.Rows.{bit}
use Rattle.avail_sets.proofs.Commons.{common-cases}
use Rattle.avail_sets.proofs.layering.leads_into.Goals as goal

pub returns : goal.returns
returns c =
    let cases = common-cases c.row.result.now c.args.layer.now c.first_common.result (c.row.ensures.len ∙ sym c.requires.len) c.first_common.ensures in
    let row : c.row.result.now ≡ _ = c.row.ensures.row in (
      λ yes. let (q, inside, there) = cases.0 (sym c.is_some.ensures ∙ yes) in (sym c.get.ensures ∙ c.if-not-get.false, (q, inside, subst (λ (r : List Bool). IsTrue (bit r q)) row there)),
      λ (waits, (q, inside, there)). c.is_some.ensures ∙ cases.1 (q, inside, subst (λ (r : List Bool). IsTrue (bit r q)) (sym row) there),
    )
