use Rattle.std.proofs.Common.{◌≡◌, Some, None, ◌∙◌, ap, sym, refl}
use Rattle.std.specs.Prelude.{slice_get}
use Rattle.std.proofs.lemmas.Bool.{false≢true}
use Rattle.std.proofs.lemmas.Option.{slice_get_read, slice_get_past, none-some, same_Some}
use Rattle.make_core.specs.Core.{planned_record}
use Rattle.make_core.proofs.Records.{record_decides}
use Rattle.make_core.proofs.plan.CorePlan.has_record.Goals as goal

pub returns-in-Some : goal.returns-in-Some
returns-in-Some c =
    let lookup = c.in-Some.ensures.lookup in
    let found : planned_record c.args.self.now c.args.file.0 ≡ Some c.in-Some.planned.now =
    ap (λ recs. slice_get recs c.args.file.0) (sym c.as_slice.ensures) ∙ slice_get_read _ _ _ _ refl lookup.3.0 lookup.1 in
    let test = record_decides c.in-Some.planned.now c.args.rec.now in
    (λ e. found ∙ ap Some (test.0 (sym c.eq.ensures ∙ e)), λ e. c.eq.ensures ∙ test.1 (same_Some _ _ (sym found ∙ e)))

pub returns-in-None : goal.returns-in-None
returns-in-None c =
    let past : planned_record c.args.self.now c.args.file.0 ≡ None =
    ap (λ recs. slice_get recs c.args.file.0) (sym c.as_slice.ensures) ∙ slice_get_past _ _ c.in-None.ensures.lookup.3 in
    (λ e. absurd (false≢true e), λ e. absurd (none-some _ (sym past ∙ e)))
