use Rattle.std.proofs.Common.{arith}
use Rattle.cli_words.proofs.Numbers.{not_read}
use Rattle.cli_words.proofs.number.within.Goals as goal

pub returns-in_default-3 : goal.returns-in_default-3
returns-in_default-3 c = not_read c.args.low c.args.high c.args.word.now c.in_default.field-0 c.in_default.ensures.value.0 c.requires (omega arith)
