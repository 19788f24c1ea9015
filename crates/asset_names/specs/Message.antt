-- What is printed of a refusal (this project).
use Rattle.std.specs.Prelude.{ℕ, List, codes}
use Rattle.asset_names.specs.declared.template_end.TemplateEnd.{TemplateEnd}
use Rattle.asset_names.specs.declared.template_end.TemplateEnd.TheVariants.{BadTemplate, NoMemory}

abbrev pub template_message : TemplateEnd → List ℕ
template_message BadTemplate = codes "the text is not a template"
template_message NoMemory = codes "out of memory"
