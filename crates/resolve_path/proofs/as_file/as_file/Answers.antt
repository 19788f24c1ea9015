use Rattle.std.proofs.Common.{◌++◌, map, sym}
use Rattle.path_text.specs.Child.{child_of}
use Rattle.resolve_path.specs.Files.{file_paths}
use Rattle.resolve_path.specs.Places.{first_number}
use Rattle.resolve_path.proofs.Firsts.{as_here, as_later, at_end}
use Rattle.resolve_path.proofs.as_file.as_file.Goals as goal

pub returns-then-is_some : goal.returns-then-is_some
returns-then-is_some c =
    as_here c.args.listing.now.files c.args.config.now c.in_ok-found.found (child_of c.args.folder.now c.args.name.now) (sym c.if-is_root.ensures) (sym c.if-is_some.ensures) c.in_ok-found.ensures

pub returns : goal.returns
returns c =
    let path = child_of c.args.folder.now c.args.name.now in
    at_end c.look_with.result
    (first_number c.args.listing.now.files (map (λ ending. path ++ ending) c.args.config.now.extensions))
    (first_number c.args.listing.now.files (file_paths c.args.config.now path))
    (as_later c.args.listing.now.files c.args.config.now c.in_ok-found.found path (sym c.if-is_root.ensures) (sym c.if-is_some.ensures) c.in_ok-found.ensures)
    (rw (← c.as_slice.ensures) c.look_with.ensures)
