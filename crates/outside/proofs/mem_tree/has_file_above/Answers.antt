use Rattle.std.proofs.Common.{◌≡◌, true, take, is_some, rules, sym, arith}
use Rattle.std.specs.FinMap.Entries.{find}
use Rattle.outside.proofs.Orders.{order}
use Rattle.outside.proofs.Within.{above_here, above_none}
use Rattle.outside.proofs.mem_tree.has_file_above.Goals as goal

pub returns-then-is_some : goal.returns-then-is_some
returns-then-is_some c =
    let files = c.args.files.now in
    let path = c.args.path.now in
    let end = c.loop-end.end in
    let found : is_some (find order (take end path) files) ≡ true = search rules in
    sym (above_here files path end (omega arith) (search rules) found)

pub returns : goal.returns
returns c =
    let files = c.args.files.now in
    let path = c.args.path.now in
    sym (above_none files path c.requires.normal (λ k inside. c.loop-end.invariant k (omega arith)))
