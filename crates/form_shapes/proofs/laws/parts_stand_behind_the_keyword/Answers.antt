use Rattle.form_shapes.proofs.BegunLemmas.{begun}
use Rattle.form_shapes.proofs.laws.parts_stand_behind_the_keyword.Goals as goal

pub returns : goal.returns
returns c = record {
  there = λ text tokens at form e. (begun text tokens at form e).there;
  parts = λ text tokens at form e. (begun text tokens at form e).behind;
  end = λ text tokens at form e. (begun text tokens at form e).end_is;
}
