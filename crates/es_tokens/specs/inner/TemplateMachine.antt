-- What may still come in each state of the machine of templates.
use Rattle.es_tokens.specs.QuotedShape.{any_char}
use Rattle.es_tokens.specs.Shape.{Shape, empty, seq, alt, many, char}
use Rattle.es_tokens.specs.TemplateShape.{dollars, after_dollars, template_part, template_end, template_rest, template_begun, template_resumed}
use Rattle.es_tokens.specs.declared.template.Template.{Template}
use Rattle.es_tokens.specs.declared.template.Template.TheVariants.{Begun, Resumed, Body, Dollar, Backslash, Closed}

abbrev pub template_left : Template → Shape
template_left Begun = template_begun
template_left Resumed = template_resumed
template_left Body = template_rest
template_left Dollar = alt (seq (seq (seq dollars after_dollars) (many template_part)) template_end) (alt template_end (char 0x7b))
template_left Backslash = seq (seq any_char (many template_part)) template_end
template_left Closed = empty
