use Rattle.std.proofs.Common.{◌≡◌, ◌∙◌, Err, ap, subst}
use Rattle.std.proofs.lemmas.Result.{IfOk-weaker}
use Rattle.graph_types.specs.declared.record.ModRecord.{ModRecord}
use Rattle.json_order.specs.Answer.{AnswersBy}
use Rattle.json_order.specs.declared.fault.JsonEnd.TheVariants.{Fault}
use Rattle.module_parse.specs.Parsed.{json_record}
use Rattle.module_parse.proofs.ending.json_record.Goals as goal

pub returns-in-Ok-clause-is : goal.returns-in-Ok-clause-is
returns-in-Ok-clause-is c = λ reading is.
    let text = c.args.text in
    let told = c.in-Ok.ensures.only (reading text) (rw c.get.ensures (is text)) in
    IfOk-weaker c.value_record.result _ _ (λ (rec : ModRecord) same. same ∙ ap (json_record c.args.file c.args.path.now text) told) c.value_record.ensures

pub returns-in-Err-Fault-clause-is : goal.returns-in-Err-Fault-clause-is
returns-in-Err-Fault-clause-is c = λ reading is.
    let text = c.args.text in
    let told : AnswersBy (λ given. given ≡ reading text) (Err (Fault c.in-Err-Fault.fault)) =
    subst (λ end. AnswersBy (λ given. given ≡ reading text) (Err end)) c.in-Err-Fault.field-0-is
    (c.in-Err-Fault.ensures.only (reading text) (rw c.get.ensures (is text))) in
    IfOk-weaker c.faulty_record.result _ _ (λ (rec : ModRecord) same. same ∙ ap (json_record c.args.file c.args.path.now text) told) c.faulty_record.ensures
