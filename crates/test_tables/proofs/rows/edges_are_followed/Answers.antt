use Rattle.std.proofs.Common.{refl}
use Rattle.test_tables.proofs.rows.edges_are_followed.Goals as goal

pub returns : goal.returns
returns c = record { from_first = refl; from_second = refl; from_third = refl; from_fourth = refl; on_demand = refl; first_entry = refl; second_entry = refl }
