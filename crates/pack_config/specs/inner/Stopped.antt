-- The end of a reading that stops.
use Rattle.json_order.specs.declared.fault.JsonEnd.{JsonEnd}
use Rattle.json_order.specs.declared.fault.JsonEnd.TheVariants as json_end
use Rattle.pack_config.specs.declared.fault.ConfigEnd.{ConfigEnd}
use Rattle.pack_config.specs.declared.fault.ConfigEnd.TheVariants.{Fault, NoMemory}
use Rattle.pack_config.specs.declared.fault.ConfigKind.TheVariants.{Json}
use Rattle.pack_config.specs.Faults.{config_fault}

-- what a text that isn't JSON ends with
abbrev pub stopped_as : JsonEnd → ConfigEnd
stopped_as (json_end.Fault stop) = Fault (config_fault Json stop.offset)
stopped_as json_end.NoMemory = NoMemory
