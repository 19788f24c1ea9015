use Rattle.std.proofs.Common.{inr, refl, map, string_bytes, subst}
use Rattle.cli_words.specs.inner.Reading.{AnswersJob}
use Rattle.cli_words.proofs.reading.read_words.Goals as goal

pub returns-in-None : goal.returns-in-None
returns-in-None c = inr (refl, subst (AnswersJob (map string_bytes c.args.words.now)) c.in-None.is c.in_ok-job.ensures)
