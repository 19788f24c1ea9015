use Rattle.split_plan.proofs.Orders.{order_total}
use Rattle.split_plan.proofs.laws.order_is_total.Goals as goal

pub returns : goal.returns
returns c = order_total
