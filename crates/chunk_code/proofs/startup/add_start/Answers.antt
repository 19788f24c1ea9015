use Rattle.std.proofs.Common.{append_assoc}
use Rattle.chunk_code.proofs.startup.add_start.Goals as goal

pub returns : goal.returns
returns c = simp append_assoc at (rw (c.in_ok-add_module_id.ensures, c.in_ok-add.ensures) at c.add-2.ensures)
