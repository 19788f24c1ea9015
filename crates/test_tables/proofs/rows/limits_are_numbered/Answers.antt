use Rattle.std.proofs.Common.{refl}
use Rattle.test_tables.proofs.rows.limits_are_numbered.Goals as goal

pub returns : goal.returns
returns c = record { files = refl; path_bytes = refl; modules = refl; text_bytes = refl; items = refl; blocks = refl; groups = refl; chunks = refl; output_bytes = refl }
