-- An answer for a tree is one for its text.
use Rattle.std.proofs.Common.{◌≤◌, ℕ, List, length, Result, Ok, Err, inr, refl}
use Rattle.graph_types.specs.declared.config.Config.{Config}
use Rattle.json_order.specs.Answer as json
use Rattle.json_order.specs.declared.fault.JsonEnd.{JsonEnd}
use Rattle.json_order.specs.declared.fault.JsonEnd.TheVariants as json_end
use Rattle.pack_config.specs.Answer.{ConfigAnswersBy, IsConfigAnswer, size_limit}
use Rattle.pack_config.specs.inner.Stopped.{stopped_as}
use Rattle.pack_config.specs.declared.fault.ConfigEnd.{ConfigEnd}
use Rattle.pack_config.specs.declared.fault.ConfigEnd.TheVariants.{Fault, NoMemory}
use Rattle.pack_config.specs.declared.fault.ConfigFault.{ConfigFault}

pub lifted : (P Q : Result Config ConfigFault → Type 0) → ((answer : Result Config ConfigFault) → P answer → Q answer) →
    (result : Result Config ConfigEnd) → ConfigAnswersBy P result → ConfigAnswersBy Q result
lifted P Q through (Ok config) is = through (Ok config) is
lifted P Q through (Err (Fault fault)) is = through (Err fault) is
lifted P Q through (Err NoMemory) is = tt

pub stopped : (text : List ℕ) → length text ≤ size_limit → (end : JsonEnd) → json.AnswersBy (json.IsAnswer text) (Err end) → ConfigAnswersBy (IsConfigAnswer text) (Err (stopped_as end))
stopped text fits (json_end.Fault stop) is = inr (fits, (Err stop, is, refl))
stopped text fits json_end.NoMemory is = tt
