use Rattle.std.proofs.Common.{refl}
use Rattle.test_tables.proofs.rows.texts_are_joined.Goals as goal

pub returns : goal.returns
returns c = record { near = refl; beside = refl; from_root = refl; above = refl; absolute = refl }
