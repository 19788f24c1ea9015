use Rattle.json_order.proofs.FaultPlaces.{fault_within}
use Rattle.json_order.proofs.laws.faults_lie_in_the_text.Goals as goal

pub returns : goal.returns
returns c = fault_within
