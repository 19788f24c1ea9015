-- How the message of a fault is put together (this project).
use Rattle.std.specs.Prelude.{◌≡◌, ℕ, List, ◌++◌, codes}
use Rattle.std.specs.Fmt.{decimal}
use Rattle.fault_place.specs.Fault.{naming, message_of, other_asset}
use Rattle.fault_place.specs.declared.fault.FaultKind.{FaultKind}
use Rattle.fault_place.specs.declared.fault.FaultKind.TheVariants.{AssetClash}
use Rattle.fault_place.specs.declared.fault.Words.{Words}
use Rattle.fault_place.specs.declared.fault.Words.TheVariants.{Alone, Naming}

abbrev pub worded : Words → List ℕ → List ℕ
worded (Alone words) detail = words.now
worded (Naming before after) detail = naming before.now detail after.now

-- with the detail it is the whole message, or that of a clash up to its chunks
abbrev pub IsWording : FaultKind → Words → Type 0
IsWording (AssetClash first other) wording =
    (detail : List ℕ) → worded wording detail ++ (decimal first ++ codes " and " ++ other_asset other) ≡ message_of (AssetClash first other) detail
IsWording kind wording = (detail : List ℕ) → worded wording detail ≡ message_of kind detail
