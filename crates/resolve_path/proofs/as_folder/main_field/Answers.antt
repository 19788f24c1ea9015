use Rattle.std.proofs.Common.{◌≡◌, List, ℕ, get_or, take, drop, length, ◌-◌, sym, ap, ◌∙◌}
use Rattle.std.specs.List.{flat_map}
use Rattle.resolve_path.specs.Folders.{main_at, main_paths}
use Rattle.resolve_path.specs.Places.{first_number}
use Rattle.resolve_path.proofs.Firsts.{first_flat, found_here, found_later}
use Rattle.resolve_path.proofs.as_folder.main_field.Goals as goal

pub returns-then-is_some : goal.returns-then-is_some
returns-then-is_some c =
    let files = c.args.listing.now.files in
    let paths = λ (field : List ℕ). main_paths c.args.config.now c.args.folder.now (main_at c.args.manifest.now field) in
    let left = c.loop-left.left.now in
    let field : c.get.result.now ≡ get_or left 0 c.field-item.result = c.get.ensures ∙ c.field-item.is in
    found_here c.in_ok-found.found
    (first_number files (paths (get_or left 0 c.field-item.result)))
    (first_number files (flat_map paths (take (length left - 1) (drop 1 left))))
    (first_number files (flat_map paths c.args.config.now.main_fields))
    (sym c.if-is_some.ensures)
    (c.in_ok-found.ensures ∙ ap (λ one. first_number files (main_paths c.args.config.now c.args.folder.now one)) c.main_of-main.ensures ∙ ap (λ one. first_number files (paths one)) field)
    (first_flat files paths left c.field-item.result c.in-len1-up.len_at_least ∙ c.loop-left.invariant)

pub loop-left-preserved : goal.loop-left-preserved
loop-left-preserved c =
    let files = c.args.listing.now.files in
    let paths = λ (field : List ℕ). main_paths c.args.config.now c.args.folder.now (main_at c.args.manifest.now field) in
    let left = c.loop-left.left.now in
    let field : c.get.result.now ≡ get_or left 0 c.field-item.result = c.get.ensures ∙ c.field-item.is in
    found_later c.in_ok-found.found
    (first_number files (paths (get_or left 0 c.field-item.result)))
    (first_number files (flat_map paths (take (length left - 1) (drop 1 left))))
    (first_number files (flat_map paths c.args.config.now.main_fields))
    (sym c.if-is_some.ensures)
    (c.in_ok-found.ensures ∙ ap (λ one. first_number files (main_paths c.args.config.now c.args.folder.now one)) c.main_of-main.ensures ∙ ap (λ one. first_number files (paths one)) field)
    (first_flat files paths left c.field-item.result c.in-len1-up.len_at_least ∙ c.loop-left.invariant)
