use Rattle.std.proofs.Common.{◌≡◌, false, true, rules}
use Rattle.path_text.specs.Path.{is_normal}
use Rattle.outside.specs.Additions.{clashes}
use Rattle.outside.proofs.Inserts.{is_tree_put}
use Rattle.outside.proofs.mem_tree.MemTree.with.Goals as goal

pub invariant_of-self-2 : goal.invariant_of-self-2
invariant_of-self-2 c =
    let files = c.self.inside.files.items in
    let path = c.args.path.now in
    let normal : is_normal path ≡ true = search rules in
    let free : clashes files path ≡ false = search rules in
    rw (c.in_ok-put_file.ensures, c.in_ok-new.ensures) (is_tree_put files path c.in_ok-new-2.field-0 c.self.invariant normal free)
