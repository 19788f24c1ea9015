use Rattle.std.proofs.Common.{◌≡◌, ⊎_elim, [], Some, None, refl, sym, ap, ◌∙◌, subst, arith, below_more, le_trans}
use Rattle.std.specs.Prelude.{Contains, slice_get}
use Rattle.std.specs.Option.{option_map_or}
use Rattle.std.proofs.lemmas.Bool.{cases_lt, false≢true}
use Rattle.std.proofs.lemmas.Option.{slice_get_past, slice_get_read}
use Rattle.graph_types.specs.Targets.{targets_of}
use Rattle.make_core.specs.Core.{planned_record}
use Rattle.make_core.proofs.Members.{list_any-Contains}
use Rattle.make_core.proofs.state.CoreState.is_open_target.Goals as goal
use Rattle.make_core.proofs.state.CoreState.is_open_target.Goals.{else-opens-via-then-opens+else-names, else-opens-via-else-opens}

pub returns-then-names : goal.returns-then-names
returns-then-names c =
    let found : planned_record c.args.plan.now c.loop-place.place ≡ Some c.rec-item.result =
    ap (λ recs. slice_get recs c.loop-place.place) (sym c.as_slice-rec-items.ensures) ∙ slice_get_read _ _ _ _ refl c.loop-place-test.true c.rec-item.is in
    let named = subst (λ o. Contains (option_map_or targets_of o []) c.args.file.0) (sym found) ((list_any-Contains _ _ _ c.names.ensures).0 c.if-names.true) in
    (λ _. (c.loop-place.place, c.opens.ensures.0 c.if-opens.true, named), λ _. refl)

pub loop-place-preserved : goal.loop-place-preserved
loop-place-preserved c =
    let found : planned_record c.args.plan.now c.loop-place.place ≡ Some c.rec-item.result =
    ap (λ recs. slice_get recs c.loop-place.place) (sym c.as_slice-rec-items.ensures) ∙ slice_get_read _ _ _ _ refl c.loop-place-test.true c.rec-item.is in
    below_more _ _ c.loop-place.invariant (λ opened named.
    elim c.else-opens.branch [
      | else-opens-via-then-opens+else-names w ↦
          false≢true (sym w.if-names.false ∙ (list_any-Contains _ _ _ w.names.ensures).1 (subst (λ o. Contains (option_map_or targets_of o []) c.args.file.0) found named))
      | else-opens-via-else-opens w ↦ false≢true (sym w.if-opens.false ∙ c.opens.ensures.1 opened)
    ])

pub returns : goal.returns
returns c = (
  λ e. absurd (false≢true e),
  λ target. ⊎_elim
      (λ below. absurd (c.loop-place.invariant target.0 below target.1 target.2))
      (λ past.
      let none : planned_record c.args.plan.now target.0 ≡ None =
      ap (λ recs. slice_get recs target.0) (sym c.as_slice-rec-items.ensures) ∙ slice_get_past _ target.0 (le_trans c.loop-place-test.false past) in
      let none_named = subst (λ o. Contains (option_map_or targets_of o []) c.args.file.0) none target.2 in
      absurd (omega (arith, none_named.1)))
      (cases_lt target.0 c.loop-place.place),
)
