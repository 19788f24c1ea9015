use Rattle.std.proofs.Common.{refl}
use Rattle.test_tables.proofs.rows.texts_are_normal.Goals as goal

pub returns : goal.returns
returns c = record { up = refl; here = refl; twice_up = refl; nothing = refl; dot = refl; to_root = refl; dots = refl; slash_behind = refl; not_ascii = refl }
