use Rattle.std.proofs.lemmas.Str.{encodes-chars}
use Rattle.es_tokens.proofs.step.place.Goals as goal

pub returns-clause-left : goal.returns-clause-left
returns-clause-left c = rw (encodes-chars c.args.rest.now c.utf8.rest)
