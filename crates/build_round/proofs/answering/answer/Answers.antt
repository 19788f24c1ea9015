use Rattle.std.proofs.Common.{◌≡◌, ℕ, zero, suc, ◌<◌, List, [], ◌∷◌, get_or, length, arith, sym, ap, ◌∙◌, inl, inr}
use Rattle.std.proofs.lemmas.Result.{err_from_is_err_and}
use Rattle.std.specs.Prelude.{Err, IsErrOf}
use Rattle.outside.specs.declared.outside_end.OutsideEnd.TheVariants.{Failed}
use Rattle.build_round.specs.declared.part.Part.{Part}
use Rattle.build_round.specs.inner.Parts.{SomeFailed}
use Rattle.build_round.proofs.answering.answer.Goals as goal

failed_at : {R : Type 0} (parts : List (Part R)) (k : ℕ) (d : Part R) → k < length parts → IsErrOf (get_or parts k d).end Failed → SomeFailed parts
failed_at [] k d below is = absurd (omega arith)
failed_at (part ∷ parts) zero d below is = inl is
failed_at (part ∷ parts) (suc k) d below is = inr (failed_at parts k d (omega arith) is)

pub returns-in_err-part-clause-cause : goal.returns-in_err-part-clause-cause
returns-in_err-part-clause-cause g c = λ is.
    let p = err_from_is_err_and c.from_residual.result c.from_residual.ensures.1 in
    let place = c.loop-part.part-index in
    let part = c.part-item.result in
    let failed : c.in_err-part.field-0.0 ≡ Failed = cc in
    failed_at c.args.parts.now place part c.loop-part-test.true (ap (λ (one : Part g.row.R.Denot). one.end) (sym c.part-item.is) ∙ c.in_err-part.was ∙ ap Err failed)
