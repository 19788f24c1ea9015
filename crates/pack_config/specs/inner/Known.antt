-- The faults of a member of a condition's object whose key is known.
use Rattle.std.specs.Prelude.{List, [], Option, Some, None}
use Rattle.graph_types.specs.declared.condition.Condition.{Condition}
use Rattle.pack_config.specs.declared.fault.ConfigFault.{ConfigFault}
use Rattle.pack_config.specs.Conditions.{Meant}

abbrev pub known_faults : Option (Meant Condition) → List ConfigFault
known_faults None = []
known_faults (Some condition) = condition.faults
