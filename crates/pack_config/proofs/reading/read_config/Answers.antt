use Rattle.std.proofs.Common.{Ok, Err, inr, sym, subst, arith}
use Rattle.pack_config.specs.Answer.{ConfigAnswersBy, IsConfigAnswer, IsAnswerIn}
use Rattle.pack_config.specs.declared.fault.ConfigEnd.{ConfigEnd}
use Rattle.pack_config.proofs.Lifted.{lifted, stopped}
use Rattle.pack_config.proofs.reading.read_config.Goals as goal

pub returns-in-Ok : goal.returns-in-Ok
returns-in-Ok c =
    lifted (IsAnswerIn c.args.text.now c.in-Ok.tree) (IsConfigAnswer c.args.text.now)
    (λ answer is. inr (omega arith, (Ok c.in-Ok.tree, c.in-Ok.ensures.found, is))) c.config_of.result c.config_of.ensures

pub returns-in-Err : goal.returns-in-Err
returns-in-Err c =
    subst (λ (end : ConfigEnd). ConfigAnswersBy (IsConfigAnswer c.args.text.now) (Err end)) (sym c.stopped.ensures)
    (stopped c.args.text.now (omega arith) c.in-Err.end c.in-Err.ensures.found)
