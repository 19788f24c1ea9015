use Rattle.std.proofs.Common.{rules}
use Rattle.tree_sample.proofs.Steps.{library_added, on_ok}
use Rattle.tree_sample.proofs.sample.add_library.Goals as goal

pub returns : goal.returns
returns c =
    on_ok c.add.result
    (library_added c.as_str.result.now c.args.text.now c.args.tree.now c.add.new.tree c.args.k (search rules) c.requires.text c.requires.before c.requires.few)
    c.add.ensures
