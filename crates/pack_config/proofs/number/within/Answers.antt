use Rattle.std.proofs.Common.{arith}
use Rattle.pack_config.proofs.Words.{not_read}
use Rattle.pack_config.proofs.number.within.Goals as goal

pub returns-in_default-3 : goal.returns-in_default-3
returns-in_default-3 c = not_read c.args.low c.args.high c.args.digits.now c.in_default.field-0 c.in_default.ensures.value.0 c.requires (omega arith)
