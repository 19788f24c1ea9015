use Rattle.std.proofs.Common.{refl}
use Rattle.test_tables.proofs.rows.clashes_are_found.Goals as goal

pub returns : goal.returns
returns c = record { five = refl; none = refl }
