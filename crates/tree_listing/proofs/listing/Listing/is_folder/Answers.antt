use Rattle.std.proofs.Common.{rules}
use Rattle.std.proofs.lemmas.Fn.{always_returns_same}
use Rattle.std.specs.Cmp.Lexicographic.{slice_cmp}
use Rattle.std.specs.Ordering.{nat_cmp}
use Rattle.tree_listing.proofs.Search.{folder_found}
use Rattle.tree_listing.proofs.listing.Listing.is_folder.Goals as goal

pub returns : goal.returns
returns c =
    let search_ = c.binary_search_by-found.ensures in
    let at = search_.position (λ folder. slice_cmp nat_cmp folder c.args.path.now) (always_returns_same _ _ _ (λ a r f called. search rules)) in
    rw (← c.self.view_is, ← c.as_slice.ensures.value, c.is_ok.ensures.value) (folder_found c.as_slice.result.now c.args.path.now c.binary_search_by-found.result (rw c.as_slice.ensures.value c.self.invariant.folders_ascend) search_.bound at)
