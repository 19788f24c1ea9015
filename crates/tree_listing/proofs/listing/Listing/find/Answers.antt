use Rattle.std.proofs.Common.{rules}
use Rattle.std.proofs.lemmas.Fn.{always_returns_same}
use Rattle.std.specs.Cmp.Lexicographic.{slice_cmp}
use Rattle.std.specs.Ordering.{nat_cmp}
use Rattle.tree_listing.proofs.Search.{found, missed}
use Rattle.tree_listing.proofs.listing.Listing.find.Goals as goal

pub returns-in-Ok : goal.returns-in-Ok
returns-in-Ok c =
    let at = c.in-Ok.ensures.position (λ file. slice_cmp nat_cmp file.0 c.args.path.now) (always_returns_same _ _ _ (λ a r f called. search rules)) in
    rw (← c.self.view_is, ← c.as_slice.ensures.value) (found _ _ _ (rw c.as_slice.ensures.value c.self.invariant.files_ascend) c.in-Ok.ensures.bound at)

pub returns-in-Err : goal.returns-in-Err
returns-in-Err c =
    let at = c.in-Err.ensures.position (λ file. slice_cmp nat_cmp file.0 c.args.path.now) (always_returns_same _ _ _ (λ a r f called. search rules)) in
    rw (← c.self.view_is, ← c.as_slice.ensures.value) (missed _ _ _ (rw c.as_slice.ensures.value c.self.invariant.files_ascend) at)
