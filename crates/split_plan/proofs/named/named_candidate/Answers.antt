use Rattle.std.proofs.Common.{sym, ap, ◌∙◌, arith}
use Rattle.split_plan.specs.Candidates.{size_of}
use Rattle.split_plan.proofs.Found.{share_len}
use Rattle.split_plan.proofs.NamedRows.{exit_spent, exit_few_named, exit_small_named, exit_named}
use Rattle.split_plan.proofs.named.named_candidate.Goals as goal

pub returns-then-is_spent : goal.returns-then-is_spent
returns-then-is_spent c = exit_spent _ _ _ _ _ _ c.requires.search c.requires.named (sym c.if-is_spent.ensures)

pub named_rows-requires-clause-len : goal.named_rows-requires-clause-len
named_rows-requires-clause-len c = λ m lt. share_len _ _ _ _ _ _ m c.requires.search lt

pub returns-then-count-rule : goal.returns-then-count-rule
returns-then-count-rule c = exit_few_named _ _ _ _ _ _ c.in_ok-rows.rows.modules c.in_ok-rows.rows.chunks c.requires.search c.requires.named c.in_ok-rows.ensures (omega (arith, c.count.ensures, c.if-count-rule.true))

pub returns-then-not-is_large : goal.returns-then-not-is_large
returns-then-not-is_large c =
    let size = c.size_of-size.ensures ∙ ap (λ sizes. size_of sizes c.in_ok-rows.rows.modules) c.sizes.ensures in
    exit_small_named _ _ _ _ _ _ c.in_ok-rows.rows.modules c.in_ok-rows.rows.chunks _ c.requires.search c.requires.named c.in_ok-rows.ensures size (sym c.if-not-is_large.ensures)

pub returns : goal.returns
returns c =
    let size = c.size_of-size.ensures ∙ ap (λ sizes. size_of sizes c.in_ok-rows.rows.modules) c.sizes.ensures in
    exit_named _ _ _ _ _ _ c.in_ok-rows.rows.modules c.in_ok-rows.rows.chunks _ c.requires.search c.requires.named c.in_ok-rows.ensures (sym c.if-is_spent.ensures) (omega (arith, c.count.ensures, c.if-count-rule.false)) size
    (sym c.if-not-is_large.ensures)
