use Rattle.form_shapes.proofs.ApartLemmas.{apart}
use Rattle.form_shapes.proofs.laws.forms_stand_apart.Goals as goal

pub returns : goal.returns
returns c = λ text tokens at form are e alone.
    apart text tokens (λ at brace. c.each_brace_is_closed.ensures text tokens at brace are) (c.brackets_nest.ensures text tokens are) at form e alone
