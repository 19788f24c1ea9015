use Rattle.std.proofs.Common.{refl}
use Rattle.test_tables.proofs.rows.paths_are_taken_apart.Goals as goal

pub returns : goal.returns
returns c = record { folder = refl; root = refl; entry = refl; root_entry = refl; normal = refl; nothing = refl; slash_behind = refl; here = refl; up = refl; control = refl; segment = refl; two_segments = refl }
