use Rattle.std.proofs.Common.{append_assoc}
use Rattle.module_code.proofs.module.add_json.Goals as goal

pub returns : goal.returns
returns c = simp append_assoc at (rw (c.in_ok-add-2.ensures, c.without_mark.ensures, c.get.ensures, c.in_ok-add.ensures) at c.add-3.ensures)
