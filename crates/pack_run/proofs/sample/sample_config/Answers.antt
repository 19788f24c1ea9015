use Rattle.std.proofs.Common.{Err, subst}
use Rattle.pack_config.specs.Answer.{ConfigAnswersBy, IsConfigAnswer}
use Rattle.pack_config.specs.declared.fault.ConfigEnd.{ConfigEnd}
use Rattle.pack_run.specs.Sample.{sample_config}
use Rattle.pack_run.proofs.SampleConfigs.{never_faulty}
use Rattle.pack_run.proofs.sample.sample_config.Goals as goal

pub unreachable-requires : goal.unreachable-requires
unreachable-requires c =
    never_faulty c.one_answer.ensures c.in-Err-Fault.field-0-0
    (subst (λ (end : ConfigEnd). ConfigAnswersBy (IsConfigAnswer sample_config) (Err end)) c.in-Err-Fault.field-0-is c.in-Err-Fault.ensures)
