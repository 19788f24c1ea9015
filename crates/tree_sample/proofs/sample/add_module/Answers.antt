use Rattle.std.proofs.Common.{rules, arith}
use Rattle.tree_sample.proofs.Steps.{module_added, on_ok}
use Rattle.tree_sample.proofs.sample.add_module.Goals as goal

pub returns : goal.returns
returns c =
    on_ok c.add.result
    (module_added c.as_str.result.now c.as_bytes.result.now c.args.tree.now c.add.new.tree c.args.n c.args.i (search rules) (search rules) c.requires.before (omega (arith, c.requires.within, c.requires.few)))
    c.add.ensures
