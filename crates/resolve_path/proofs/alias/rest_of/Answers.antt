use Rattle.std.proofs.Common.{sym}
use Rattle.resolve_path.proofs.Texts.{rest_none, rest_some}
use Rattle.resolve_path.proofs.alias.rest_of.Goals as goal

pub returns-in_err-rest : goal.returns-in_err-rest
returns-in_err-rest c = rw c.from_residual.ensures (rest_none c.args.request.now c.args.key.now c.name_of.result.now c.name_of.ensures c.in_err-rest.ensures.cases)

pub returns : goal.returns
returns c =
    let front = c.in_ok-rest.ensures.cases in
    rest_some c.args.request.now c.args.key.now c.name_of.result.now c.in_ok-rest.rest.now front.0 c.name_of.ensures front.1 front.2 (sym c.if-not-goes_on.ensures)
