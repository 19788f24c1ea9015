use Rattle.std.proofs.Common.{◌++◌, sym}
use Rattle.std.specs.List.{flat_map}
use Rattle.resolve_path.specs.Files.{main_file_paths}
use Rattle.resolve_path.specs.Folders.{main_at, main_paths}
use Rattle.resolve_path.specs.Places.{first_number}
use Rattle.resolve_path.proofs.Firsts.{at_end, first_append, found_here, found_later}
use Rattle.resolve_path.proofs.as_folder.in_folder_with.Goals as goal

pub returns-then-is_some : goal.returns-then-is_some
returns-then-is_some c =
    let files = c.args.listing.now.files in
    let first = (flat_map (λ field. main_paths c.args.config.now c.args.folder.now (main_at c.args.manifest.now field)) c.args.config.now.main_fields) in
    let later = (main_file_paths c.args.config.now c.args.folder.now) in
    found_here c.in_ok-found.found (first_number files first) (first_number files later) (first_number files (first ++ later))
    (sym c.if-is_some.ensures) c.in_ok-found.ensures (sym (first_append files first later))

pub returns : goal.returns
returns c =
    let files = c.args.listing.now.files in
    let first = (flat_map (λ field. main_paths c.args.config.now c.args.folder.now (main_at c.args.manifest.now field)) c.args.config.now.main_fields) in
    let later = (main_file_paths c.args.config.now c.args.folder.now) in
    at_end c.main_file.result (first_number files later) (first_number files (first ++ later))
    (found_later c.in_ok-found.found (first_number files first) (first_number files later) (first_number files (first ++ later))
    (sym c.if-is_some.ensures) c.in_ok-found.ensures (sym (first_append files first later)))
    c.main_file.ensures
