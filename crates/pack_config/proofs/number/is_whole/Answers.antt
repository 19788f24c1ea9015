use Rattle.pack_config.proofs.Words.{whole_word}
use Rattle.std.proofs.Common.{◌∙◌}
use Rattle.pack_config.proofs.number.is_whole.Goals as goal

pub returns-then-not-is_empty : goal.returns-then-not-is_empty
returns-then-not-is_empty c = c.has_only_digits.ensures ∙ whole_word c.args.word.now c.is_empty.result c.is_empty.ensures c.if-not-is_empty.true
