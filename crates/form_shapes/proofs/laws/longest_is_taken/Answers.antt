use Rattle.form_shapes.specs.Forms.{form_at}
use Rattle.form_shapes.proofs.LongestLemmas.{is_longest}
use Rattle.form_shapes.proofs.laws.longest_is_taken.Goals as goal

pub returns : goal.returns
returns c = λ text tokens at outside shapes. is_longest (form_at text tokens at outside) shapes
