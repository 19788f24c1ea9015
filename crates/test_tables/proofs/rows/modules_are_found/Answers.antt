use Rattle.std.proofs.Common.{refl}
use Rattle.test_tables.proofs.rows.modules_are_found.Goals as goal

pub returns : goal.returns
returns c = record { file_1 = refl; file_2 = refl; file_4 = refl; file_7 = refl; file_0 = refl; file_3 = refl; file_5 = refl; file_6 = refl; file_8 = refl; last_file = refl }
