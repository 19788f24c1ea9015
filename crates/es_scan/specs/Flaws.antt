-- What is wrong in a module's text, by offset (this project).
use Rattle.std.specs.Prelude.{ℕ, Bool, ◌||◌, ◌+◌, List, [], ◌∷◌, ◌++◌, if◌then◌else◌}
use Rattle.std.specs.List.{list_any}
use Rattle.std.specs.Str.{bytes_eq}
use Rattle.es_tokens.specs.declared.token.Token.{Token}
use Rattle.fault_place.specs.Place.{place_in}
use Rattle.fault_place.specs.declared.fault.Fault.{Fault}
use Rattle.fault_place.specs.declared.fault.FaultKind.{FaultKind}
use Rattle.fault_place.specs.declared.fault.FaultKind.TheVariants.{Form, DynamicRequest, RepeatedName}
use Rattle.form_shapes.specs.Source.{start_at, mate_at, is_at}
use Rattle.form_shapes.specs.declared.sign.Sign.TheVariants as sign
use Rattle.form_shapes.specs.declared.standing.Standing.{Standing}
use Rattle.form_shapes.specs.declared.standing.Standing.TheVariants.{BadForm, OddImport}
use Rattle.es_scan.specs.declared.flaws.Flaw.{Flaw}
use Rattle.magic_comments.specs.declared.magic.Magic.{Magic}

abbrev pub flaw_at : List Token → ℕ → FaultKind → Flaw
flaw_at tokens at kind = record { offset = start_at tokens at; kind = kind; detail = [] }

-- a body stands behind the brackets behind a token, so that it is a method's name
abbrev pub is_method : List ℕ → List Token → ℕ → Bool
is_method text tokens at = is_at text tokens sign.Brace (mate_at tokens (at + 1) + 1)

-- of the forms themselves
unfoldable pub flaws_by : List ℕ → List Token → ℕ → Magic → Standing → List Flaw
flaws_by text tokens at magic BadForm = flaw_at tokens at Form ∷ []
flaws_by text tokens at magic OddImport = if magic.ignored || is_method text tokens at then [] else flaw_at tokens at DynamicRequest ∷ []
flaws_by text tokens at magic _ = []

-- a name that stands among earlier ones
abbrev pub repeat_of : ℕ → List (List ℕ) → List ℕ → List Flaw
repeat_of offset earlier name =
    if list_any (bytes_eq name) earlier then record { offset = offset; kind = RepeatedName; detail = name } ∷ [] else []

-- names that stand among earlier ones, or among those before them
abbrev pub repeats : ℕ → List (List ℕ) → List (List ℕ) → List Flaw
repeats offset earlier [] = []
repeats offset earlier (name ∷ names) = repeat_of offset earlier name ++ repeats offset (earlier ++ name ∷ []) names

-- the fault of a flaw in the text at a path
abbrev pub fault_of_flaw : List ℕ → List ℕ → Flaw → Fault
fault_of_flaw path text flaw = record { place = place_in path text flaw.offset; kind = flaw.kind; detail = flaw.detail }
