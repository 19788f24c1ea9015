use Rattle.std.proofs.Common.{append_assoc}
use Rattle.module_code.proofs.es.add_exported_names.Goals as goal

pub returns : goal.returns
returns c = simp append_assoc at (rw (c.in_ok-add_exports.ensures, c.requires, c.as_slice.ensures, c.in_ok-add.ensures) at c.add-2.ensures)
