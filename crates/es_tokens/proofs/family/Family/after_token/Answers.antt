use Rattle.std.proofs.Common.{sym}
use Rattle.std.specs.Str.{chars}
use Rattle.es_tokens.proofs.LongestLemmas.{longest-no_text}
use Rattle.es_tokens.proofs.family.Family.after_token.Goals as goal

-- no text has the shape of a comment that isn't ended
pub returns-in-Comment-clause-rest : goal.returns-in-Comment-clause-rest
returns-in-Comment-clause-rest c = rw c.in-Comment.is (sym (longest-no_text (chars c.args.text.now)))
