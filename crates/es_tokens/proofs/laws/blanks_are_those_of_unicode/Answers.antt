use Rattle.es_tokens.proofs.BlankLemmas.{blank-unicode}
use Rattle.es_tokens.proofs.laws.blanks_are_those_of_unicode.Goals as goal

pub returns : goal.returns
returns c = blank-unicode
