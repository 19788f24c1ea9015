use Rattle.module_build.proofs.laws.one_record.Goals as goal

pub returns-clause-some : goal.returns-clause-some
returns-clause-some c = (
  record { json = λ text. (c.each_text_has_an_answer.ensures text).0; manifest = c.one_reading.ensures.some.0 },
  record { json = λ text. (c.each_text_has_an_answer.ensures text).1; manifest = c.one_reading.ensures.some.1 },
)

pub returns-clause-only : goal.returns-clause-only
returns-clause-only c = λ one other right also.
    (λ i. record {
      json = λ text. c.one_answer.ensures text (one.json text) (other.json text) (right.json text) (also.json text) i;
      manifest = c.one_reading.ensures.only one.manifest other.manifest right.manifest also.manifest i;
    })
