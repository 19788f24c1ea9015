use Rattle.std.proofs.Common.{rules}
use Rattle.outside.proofs.Within.{within_filter}
use Rattle.outside.proofs.mem_tree.has_file_within.Goals as goal

pub returns : goal.returns
returns c =
    let held = within_filter c.args.path.now c.args.files.now c.requires.normal in
    rw held (search rules)
