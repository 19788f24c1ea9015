use Rattle.std.proofs.Common.{refl}
use Rattle.test_tables.proofs.rows.kinds_are_worded.Goals as goal

pub returns : goal.returns
returns c = record { not_utf8 = refl; unfinished = refl; stray = refl; unmatched = refl; depth = refl; opens = refl; form = refl; dynamic_request = refl; unresolved = refl; not_exported = refl; bad_manifest = refl; bad_target = refl; entry_on_demand = refl; bad_json = refl; bad_type = refl; repeated_name = refl; group_name = refl; too_long = refl; not_yet = refl }
