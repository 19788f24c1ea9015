use Rattle.resolve_path.proofs.Texts.{whole_name}
use Rattle.resolve_path.proofs.alias.name_of.Goals as goal

pub returns-in-None : goal.returns-in-None
unfolding lib.Utf8.encode
returns-in-None c = whole_name c.args.key.now c.in-None.ensures.cases
