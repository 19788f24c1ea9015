use Rattle.json_order.proofs.Words.{string_of_word}
use Rattle.json_order.proofs.word.Word.into_string.Goals as goal

pub returns : goal.returns
returns c = rw (c.ok.ensures.value, ← c.self.view_is) (string_of_word _ _ c.from_utf8.ensures.ok c.from_utf8.ensures.succeeds)
