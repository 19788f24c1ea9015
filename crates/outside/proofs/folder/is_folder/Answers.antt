use Rattle.std.proofs.Common.{◌≡◌, filter, rules, sym, ◌∙◌}
use Rattle.std.specs.List.{list_any}
use Rattle.outside.specs.inner.Cut.{has_prefix}
use Rattle.outside.specs.Tree.{within}
use Rattle.outside.proofs.Within.{folder_is_held, any_within}
use Rattle.outside.proofs.folder.is_folder.Goals as goal

pub returns-else-is_empty : goal.returns-else-is_empty
returns-else-is_empty c =
    let folder = c.args.folder.now in
    let files = c.args.files.now in
    let found : c.has_one_within.result ≡ list_any (has_prefix (within folder)) (filter (has_prefix folder) files) = search rules in
    found ∙ any_within folder files ∙ sym (folder_is_held files folder (search rules))
