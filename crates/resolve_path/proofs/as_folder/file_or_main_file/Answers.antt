use Rattle.std.proofs.Common.{◌++◌, sym}
use Rattle.resolve_path.specs.Files.{file_paths, main_file_paths}
use Rattle.resolve_path.specs.Places.{first_number}
use Rattle.resolve_path.proofs.Firsts.{at_end, first_append, found_here, found_later}
use Rattle.resolve_path.proofs.as_folder.file_or_main_file.Goals as goal

pub returns-then-is_some : goal.returns-then-is_some
returns-then-is_some c =
    let files = c.args.listing.now.files in
    let first = (file_paths c.args.config.now c.args.path.now) in
    let later = (main_file_paths c.args.config.now c.args.path.now) in
    found_here c.in_ok-found.found (first_number files first) (first_number files later) (first_number files (first ++ later))
    (sym c.if-is_some.ensures) c.in_ok-found.ensures (sym (first_append files first later))

pub returns : goal.returns
returns c =
    let files = c.args.listing.now.files in
    let first = (file_paths c.args.config.now c.args.path.now) in
    let later = (main_file_paths c.args.config.now c.args.path.now) in
    at_end c.main_file.result (first_number files later) (first_number files (first ++ later))
    (found_later c.in_ok-found.found (first_number files first) (first_number files later) (first_number files (first ++ later))
    (sym c.if-is_some.ensures) c.in_ok-found.ensures (sym (first_append files first later)))
    c.main_file.ensures
