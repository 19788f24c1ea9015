use Rattle.std.proofs.Common.{◌≡◌, ◌≤◌, ◌<◌, ◌∷◌, [], length, arith}
use Rattle.es_tokens.specs.Mated.{mated_token}
use Rattle.es_tokens.proofs.TokensLemmas.{set-mate, with_mate-past}
use Rattle.es_tokens.proofs.list.add.Goals as goal

pub returns-then-mate-number : goal.returns-then-mate-number
returns-then-mate-number c =
    let tokens = c.args.tokens.now.items in
    let found = mated_token c.args.found c.args.mate ∷ [] in
    let below : c.args.mate < length tokens = omega (arith, c.if-mate-number.true) in
    let number : c.len-number.result ≡ length tokens = omega (arith, c.args.tokens.now.ok.0) in
    rw (c.in_ok-push.ensures.items, number)
    (set-mate tokens found c.args.mate (length tokens) c.index_mut.result.now below (rw c.in_ok-push.ensures.items at c.index_mut.ensures.value))

pub returns-else-mate-number : goal.returns-else-mate-number
returns-else-mate-number c =
    let tokens = c.args.tokens.now.items in
    let above : length tokens ≤ c.args.mate = omega (arith, c.if-mate-number.false) in
    rw (with_mate-past tokens c.args.mate (length tokens) above) c.in_ok-push.ensures.items
