use Rattle.std.specs.Prelude.{codes}
use Rattle.std.proofs.lemmas.Str.Pattern.{ends_text}
use Rattle.resolve_path.proofs.upward.ends_with_modules.Goals as goal

pub returns : goal.returns
returns c = ends_text c.ends_with.result (codes "/node_modules") c.args.folder.now c.ends_with.ensures.cases
