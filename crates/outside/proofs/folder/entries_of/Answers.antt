use Rattle.std.proofs.Common.{◌≡◌, filter, take, rules}
use Rattle.std.proofs.lemmas.List.{take_all}
use Rattle.outside.specs.inner.Cut.{has_prefix}
use Rattle.outside.proofs.Listings.{listing}
use Rattle.outside.proofs.folder.entries_of.Goals as goal

pub returns : goal.returns
returns c =
    let tree = c.args.files.now in
    let folder = c.args.folder.now in
    let files = c.files_with_prefix-file-items.result.now in
    let same : files ≡ filter (has_prefix folder) tree = search rules in
    let whole : take c.loop-file.file-index files ≡ files = take_all c.loop-file.file-index files c.loop-file-test.false in
    rw (c.loop-file.invariant, whole, same) (listing tree folder c.requires)
