-- The faults of a configuration, and which of them is the answer (this project).
use Rattle.std.specs.Prelude.{ℕ, Bool, not, ◌&&◌, ◌||◌, ◌==◌, nat_lt, List, IsTrue, Contains}
use Rattle.std.specs.List.{list_all}
use Rattle.pack_config.specs.declared.fault.ConfigFault.{ConfigFault}
use Rattle.pack_config.specs.declared.fault.ConfigKind.{ConfigKind}
use Rattle.pack_config.specs.declared.fault.ConfigKind.TheVariants.{TooLong, Json, UnknownKey, WrongType, OutOfRange, Repeated}

abbrev pub rank : ConfigKind → ℕ
rank TooLong = 0
rank Json = 1
rank UnknownKey = 2
rank WrongType = 3
rank OutOfRange = 4
rank Repeated = 5

abbrev pub config_fault : ConfigKind → ℕ → ConfigFault
config_fault kind offset = record { offset = offset; kind = kind }

-- by offset, and at one offset by kind
abbrev pub precedes : ConfigFault → ConfigFault → Bool
precedes one other = nat_lt one.offset other.offset || (one.offset == other.offset && nat_lt (rank one.kind) (rank other.kind))

-- one of the faults, which none of them precedes
pub record IsLeast (fault : ConfigFault) (faults : List ConfigFault) : Type 0 where
  pub among : Contains faults fault
  pub first : IsTrue (list_all (λ other. not (precedes other fault)) faults)
