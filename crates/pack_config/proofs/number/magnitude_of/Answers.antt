use Rattle.std.proofs.Common.{None, lit<}
use Rattle.std.proofs.lemmas.Str.Pattern.{strip_prefix_char}
use Rattle.pack_config.proofs.Words.{no_minus}
use Rattle.pack_config.proofs.number.magnitude_of.Goals as goal

pub returns-in-None : goal.returns-in-None
returns-in-None c = no_minus c.args.word.now (strip_prefix_char 45 c.args.word.now None c.in-None.ensures.cases (lit< tt))
