-- Faults: their numbers, their lines and their one order (this project).
use Rattle.std.specs.Prelude.{ℕ, List, [], ◌∷◌, ◌++◌, codes, Option, None, Some, if◌then◌else◌}
use Rattle.std.specs.declared.cmp.Ordering.{Ordering}
use Rattle.std.specs.Ordering.{nat_cmp, on, then_cmp, is_lt}
use Rattle.std.specs.Fmt.{decimal}
use Rattle.std.specs.Cmp.Lexicographic.{slice_cmp}
use Rattle.fault_place.specs.declared.fault.FaultKind.{FaultKind}
use Rattle.fault_place.specs.declared.fault.FaultKind.TheVariants.{NotUtf8, Unfinished, Stray, Unmatched, Depth, Open, Form, DynamicRequest, Unresolved, NotExported, BadManifest, BadTarget, EntryOnDemand, BadJson, BadType, RepeatedName, AssetClash, GroupName, TooLong, NotYet}
use Rattle.fault_place.specs.declared.fault.Fault.{Fault}

-- the number that stands behind the B
abbrev pub number_of : FaultKind → ℕ
number_of NotUtf8 = 1
number_of Unfinished = 2
number_of Stray = 3
number_of Unmatched = 4
number_of Depth = 5
number_of Open = 6
number_of Form = 7
number_of DynamicRequest = 8
number_of Unresolved = 9
number_of NotExported = 10
number_of BadManifest = 11
number_of BadTarget = 12
number_of EntryOnDemand = 13
number_of BadJson = 14
number_of BadType = 15
number_of RepeatedName = 16
number_of (AssetClash first other) = 17
number_of GroupName = 18
number_of TooLong = 19
number_of NotYet = 20

-- a text between double quotes, as it stands
abbrev pub quoted : List ℕ → List ℕ
quoted text = codes "\"" ++ text ++ codes "\""

-- words that name a detail
abbrev pub naming : List ℕ → List ℕ → List ℕ → List ℕ
naming before detail after = before ++ quoted detail ++ after

-- the other asset of a clash: a chunk's, or the stats
abbrev pub other_asset : Option ℕ → List ℕ
other_asset None = codes "the stats"
other_asset (Some chunk) = codes "chunk " ++ decimal chunk

-- what a fault's line says of a kind and a detail
abbrev pub message_of : FaultKind → List ℕ → List ℕ
message_of NotUtf8 detail = codes "text is not UTF-8"
message_of Unfinished detail = codes "unfinished token"
message_of Stray detail = codes "stray character"
message_of Unmatched detail = codes "unmatched bracket"
message_of Depth detail = codes "brackets too deep"
message_of Open detail = codes "text ends in a bracket"
message_of Form detail = codes "form is not supported"
message_of DynamicRequest detail = codes "import() needs one text"
message_of Unresolved detail = naming (codes "cannot resolve ") detail []
message_of NotExported detail = naming [] detail (codes " is not exported")
message_of BadManifest detail = naming (codes "bad manifest ") detail []
message_of BadTarget detail = naming (codes "bad exports in ") detail []
message_of EntryOnDemand detail = naming (codes "chunk name ") detail (codes " is an entry")
message_of BadJson detail = codes "bad JSON"
message_of BadType detail = codes "module type is not supported"
message_of RepeatedName detail = naming (codes "name ") detail (codes " is repeated")
message_of (AssetClash first other) detail =
    naming (codes "asset ") detail (codes " of chunk ") ++ decimal first ++ codes " and " ++ other_asset other
message_of GroupName detail = naming (codes "cache group name ") detail (codes " is taken")
message_of TooLong detail = codes "module is too long"
message_of NotYet detail = codes "form is not built yet"

-- PATH:LINE:COLUMN: Bn MESSAGE
abbrev pub line_of : Fault → List ℕ
line_of fault =
    fault.place.path ++ codes ":" ++ decimal fault.place.line ++ codes ":" ++ decimal fault.place.column
    ++ codes ": B" ++ decimal (number_of fault.kind) ++ codes " " ++ message_of fault.kind fault.detail

-- by path, then offset, then kind number, then line
abbrev pub fault_cmp : Fault → Fault → Ordering
fault_cmp =
    then_cmp (on (λ fault. fault.place.path) (slice_cmp nat_cmp))
    (then_cmp (on (λ fault. fault.place.offset) nat_cmp)
    (then_cmp (on (λ fault. number_of fault.kind) nat_cmp)
    (on line_of (slice_cmp nat_cmp))))

-- a fault put before the first of a list that isn't below it
abbrev pub placed : Fault → List Fault → List Fault
placed fault [] = fault ∷ []
placed fault (first ∷ rest) = if is_lt (fault_cmp first fault) then first ∷ placed fault rest else fault ∷ first ∷ rest

-- the faults in their order; those that the order doesn't tell apart stay as they stood
abbrev pub in_order : List Fault → List Fault
in_order [] = []
in_order (fault ∷ faults) = placed fault (in_order faults)
