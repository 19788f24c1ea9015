-- What a step of reading a template gives.
use Rattle.std.specs.Prelude.{◌≡◌, ◌⊎◌, List, Option, Some, None, Result, MatchResult}
use Rattle.graph_types.specs.declared.part.Part.{Part}
use Rattle.asset_names.specs.declared.template_end.TemplateEnd.{TemplateEnd}
use Rattle.asset_names.specs.declared.template_end.TemplateEnd.TheVariants.{BadTemplate, NoMemory}

-- the parts that are defined; or memory ran out, or none are. `shown` is what a caller sees of an Ok.
abbrev pub GivesParts : {A : Type 0} → Option (List Part) → (A → List Part) → Result A TemplateEnd → Type 0
GivesParts defined shown result =
    MatchResult result (λ value. defined ≡ Some (shown value))
    (λ end. (end ≡ NoMemory) ⊎ ((end ≡ BadTemplate) × (defined ≡ None)))
