use Rattle.std.proofs.Common.{◌≡◌, ap, subst, arith, length}
use Rattle.tree_listing.specs.inner.Split.{files_among, folders_among}
use Rattle.tree_listing.proofs.Made.{holds}
use Rattle.tree_listing.proofs.Sorting.{IsSortedOut, AreSortedOut, sorted_out, folders_out, length-split}
use Rattle.tree_listing.proofs.listing.Listing.new.Goals as goal

pub returns-clause-ok : goal.returns-clause-ok
returns-clause-ok c =
    let kept = c.args.kept.items in
    let files : c.in_ok-files.files.items ≡ files_among kept = c.in_ok-files.ensures.files_are in
    let folders : c.in_ok-files.folders.items ≡ folders_among kept = c.in_ok-files.ensures.folders_are in
    let one = c.in_ok-files-2.ensures in
    let other = c.in_ok-folders.ensures in
    let files_left : IsSortedOut (files_among kept) c.in_ok-files-2.files.items = subst (λ xs. IsSortedOut xs c.in_ok-files-2.files.items) files (sorted_out _ _ one) in
    let folders_left : AreSortedOut (folders_among kept) c.in_ok-folders.folders.items = subst (λ xs. AreSortedOut xs c.in_ok-folders.folders.items) folders (folders_out _ _ other) in
    holds kept c.in_ok-files-2.files.items c.in_ok-folders.folders.items c.requires files_left folders_left
    (omega (arith, length-split kept, ap length files, ap length folders, one.fewer, other.fewer))

pub invariant_of-result : goal.invariant_of-result
invariant_of-result c = (returns-clause-ok c).is
