use Rattle.json_order.proofs.OneAnswer.{one_answer_from}
use Rattle.pack_config.proofs.Alone.{one_configuration}
use Rattle.pack_config.proofs.laws.one_configuration_or_one_fault.Goals as goal

pub returns : goal.returns
returns c = one_configuration (λ text one other first second. one_answer_from _ _ one other first second)
