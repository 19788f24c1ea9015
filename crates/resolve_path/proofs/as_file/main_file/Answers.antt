use Rattle.std.proofs.Common.{◌≡◌, List, ℕ, get_or, take, drop, length, ◌-◌, sym, ap, ◌∙◌}
use Rattle.std.specs.List.{flat_map}
use Rattle.path_text.specs.Child.{child_of}
use Rattle.resolve_path.specs.Files.{file_paths, main_file_paths}
use Rattle.resolve_path.specs.Places.{first_number}
use Rattle.resolve_path.proofs.Firsts.{first_flat, found_here, found_later}
use Rattle.resolve_path.proofs.as_file.main_file.Goals as goal

pub returns-then-is_some : goal.returns-then-is_some
returns-then-is_some c =
    let files = c.args.listing.now.files in
    let paths = λ (name : List ℕ). file_paths c.args.config.now (child_of c.args.folder.now name) in
    let left = c.loop-left.left.now in
    let name : c.get.result.now ≡ get_or left 0 c.name-item.result = c.get.ensures ∙ c.name-item.is in
    found_here c.in_ok-found.found
    (first_number files (paths (get_or left 0 c.name-item.result)))
    (first_number files (flat_map paths (take (length left - 1) (drop 1 left))))
    (first_number files (main_file_paths c.args.config.now c.args.folder.now))
    (sym c.if-is_some.ensures)
    (c.in_ok-found.ensures ∙ ap (λ one. first_number files (paths one)) name)
    (first_flat files paths left c.name-item.result c.in-len1-up.len_at_least ∙ c.loop-left.invariant)

pub loop-left-preserved : goal.loop-left-preserved
loop-left-preserved c =
    let files = c.args.listing.now.files in
    let paths = λ (name : List ℕ). file_paths c.args.config.now (child_of c.args.folder.now name) in
    let left = c.loop-left.left.now in
    let name : c.get.result.now ≡ get_or left 0 c.name-item.result = c.get.ensures ∙ c.name-item.is in
    found_later c.in_ok-found.found
    (first_number files (paths (get_or left 0 c.name-item.result)))
    (first_number files (flat_map paths (take (length left - 1) (drop 1 left))))
    (first_number files (main_file_paths c.args.config.now c.args.folder.now))
    (sym c.if-is_some.ensures)
    (c.in_ok-found.ensures ∙ ap (λ one. first_number files (paths one)) name)
    (first_flat files paths left c.name-item.result c.in-len1-up.len_at_least ∙ c.loop-left.invariant)
