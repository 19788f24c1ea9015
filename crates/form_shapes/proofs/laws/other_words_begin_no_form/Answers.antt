use Rattle.form_shapes.proofs.SignLemmas.{calm-sign}
use Rattle.form_shapes.proofs.laws.other_words_begin_no_form.Goals as goal

pub returns : goal.returns
returns c = λ text tokens at sign none is. calm-sign text tokens at sign none is
