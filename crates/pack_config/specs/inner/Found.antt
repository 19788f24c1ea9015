-- The least fault after more of them.
use Rattle.std.specs.Prelude.{List, [], ◌∷◌, Option, Some, None, if◌then◌else◌}
use Rattle.pack_config.specs.declared.fault.ConfigFault.{ConfigFault}
use Rattle.pack_config.specs.Faults.{precedes}

abbrev pub sooner : Option ConfigFault → ConfigFault → Option ConfigFault
sooner None fault = Some fault
sooner (Some least) fault = if precedes fault least then Some fault else Some least

abbrev pub after : Option ConfigFault → List ConfigFault → Option ConfigFault
after least [] = least
after least (fault ∷ faults) = after (sooner least fault) faults
