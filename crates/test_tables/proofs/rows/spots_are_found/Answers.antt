use Rattle.std.proofs.Common.{refl}
use Rattle.test_tables.proofs.rows.spots_are_found.Goals as goal

pub returns : goal.returns
returns c = record { at_0 = refl; at_2 = refl; at_3 = refl; at_5 = refl; at_6 = refl; at_7 = refl }
