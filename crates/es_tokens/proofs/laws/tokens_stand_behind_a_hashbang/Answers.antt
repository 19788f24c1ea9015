use Rattle.std.proofs.Common.{◌∷◌, refl}
use Rattle.es_tokens.proofs.SpanLemmas.{behind-hashbang}
use Rattle.es_tokens.proofs.laws.tokens_stand_behind_a_hashbang.Goals as goal

pub returns : goal.returns
returns c = λ text more first tokens are begins. behind-hashbang text (first ∷ tokens) are more first tokens refl begins
