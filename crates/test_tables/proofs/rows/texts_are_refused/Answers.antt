use Rattle.std.proofs.Common.{refl}
use Rattle.test_tables.proofs.rows.texts_are_refused.Goals as goal

pub returns : goal.returns
returns c = record { above = refl; later_above = refl; absolute = refl; absolute_above = refl; new_line = refl; absolute_delete = refl; above_tab = refl }
