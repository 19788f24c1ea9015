use Rattle.std.proofs.Common.{◌≡◌, ◌-◌, List, ℕ, sym, ap, subst, ◌∙◌, arith}
use Rattle.std.specs.Prelude.{IfOk}
use Rattle.resolve_path.proofs.Above.{among_up, is_here, not_here}
use Rattle.resolve_path.specs.Packages.{folders_from, folders_up}
use Rattle.resolve_path.specs.inner.Parts.{package_among}
use Rattle.resolve_path.proofs.upward.package_from.Goals as goal

pub loop-above-preserved : goal.loop-above-preserved
loop-above-preserved c =
    let among = λ (folders : List (List ℕ)). package_among c.args.listing.now.folders c.args.name.now folders in
    let rest : among (folders_up (c.loop-above.above - 1) c.parent-folder.result.now) ≡ among (folders_from c.args.base.now) =
    ap (λ folder. among (folders_up (c.loop-above.above - 1) folder)) c.parent-folder.ensures
    ∙ not_here c.in_ok-found.found _ _ (among (folders_from c.args.base.now)) (sym c.if-is_some.ensures) c.in_ok-found.ensures.is
    (sym c.loop-above.invariant.left ∙ among_up c.args.listing.now.folders c.args.name.now c.loop-above.above c.loop-above.folder.now c.loop-above-test.true) in
    record { left = rest; text = c.parent-folder.utf8 }

pub returns-then-is_some-clause-is : goal.returns-then-is_some-clause-is
returns-then-is_some-clause-is c =
    is_here c.in_ok-found.found _ _ (package_among c.args.listing.now.folders c.args.name.now (folders_from c.args.base.now)) (sym c.if-is_some.ensures) c.in_ok-found.ensures.is
    (sym c.loop-above.invariant.left ∙ among_up c.args.listing.now.folders c.args.name.now c.loop-above.above c.loop-above.folder.now c.loop-above-test.true)

pub returns-clause-is : goal.returns-clause-is
returns-clause-is c =
    let none : c.loop-above.above ≡ 0 = omega (arith, c.loop-above-test.false) in
    subst (λ own. IfOk c.package_in-2.result (λ found. found ≡ own))
    (ap (λ above. package_among c.args.listing.now.folders c.args.name.now (folders_up above c.loop-above.folder.now)) (sym none) ∙ c.loop-above.invariant.left)
    c.package_in-2.ensures.is
