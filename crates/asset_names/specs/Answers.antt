-- What the reader of templates answers (this project).
use Rattle.std.specs.Prelude.{◌≡◌, ◌⊎◌, ℕ, List, Result, MatchResult}
use Rattle.graph_types.specs.declared.part.Part.{Part}
use Rattle.graph_types.specs.declared.template.Template.{Template}
use Rattle.asset_names.specs.Template.{IsTemplateOf}
use Rattle.asset_names.specs.declared.template_end.TemplateEnd.{TemplateEnd}
use Rattle.asset_names.specs.declared.template_end.TemplateEnd.TheVariants.{BadTemplate, NoMemory}

-- the text's template; or memory ran out, or the text has none
abbrev pub AnswersTemplate : ℕ → List ℕ → Result Template TemplateEnd → Type 0
AnswersTemplate digits text result =
    MatchResult result (λ template. IsTemplateOf digits text template.parts)
    (λ end. (end ≡ NoMemory) ⊎ ((end ≡ BadTemplate) × ((parts : List Part) → ¬ (IsTemplateOf digits text parts))))
