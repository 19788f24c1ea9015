use Rattle.std.proofs.Common.{◌≡◌, sym, ◌∙◌, subst}
use Rattle.std.specs.Prelude.{IfOk}
use Rattle.resolve_path.proofs.Above.{among_one}
use Rattle.resolve_path.proofs.upward.package_in.Goals as goal

pub returns-clause-is : goal.returns-clause-is
returns-clause-is c =
    subst (λ own. IfOk c.listed.result (λ found. found ≡ own))
    (among_one c.args.listing.now.folders c.args.name.now c.args.folder.now c.as_str.result.now (sym c.if-holds_packages.ensures) (c.as_str.ensures.value ∙ c.in_ok-put.ensures))
    c.listed.ensures.is
