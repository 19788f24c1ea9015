use Rattle.std.proofs.Common.{refl}
use Rattle.test_tables.proofs.rows.texts_are_ordered.Goals as goal

pub returns : goal.returns
returns c = record { accents = refl }
