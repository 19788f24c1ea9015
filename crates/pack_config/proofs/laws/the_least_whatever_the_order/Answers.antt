use Rattle.pack_config.proofs.Alone.{one_least}
use Rattle.pack_config.proofs.laws.the_least_whatever_the_order.Goals as goal

pub returns : goal.returns
returns c = one_least
