use Rattle.std.proofs.Common.{sym, ◌∙◌}
use Rattle.chunk_graph.proofs.Rows.{row_test}
use Rattle.split_plan.proofs.Claimed.{named_comes, share_any, modules_go, unnamed_from}
use Rattle.split_plan.proofs.Found.{share_len}
use Rattle.split_plan.proofs.NamedRows.{named_modules_are}
use Rattle.split_plan.proofs.claims.claimed_modules.Goals as goal

pub named_rows-requires-clause-len : goal.named_rows-requires-clause-len
named_rows-requires-clause-len c = λ m lt. share_len _ _ _ _ _ _ m c.requires lt

pub returns-then-not-same : goal.returns-then-not-same
returns-then-not-same c =
    let rows = c.in_ok-rows.rows in
    named_comes _ _ _ _ _ _ rows.modules rows.chunks c.args.set.now c.requires (sym c.if-is_some.ensures) c.in_ok-rows.ensures ∙ sym (row_test _ _ _ c.same.ensures) ∙ c.if-not-same.true

pub returns-then-is_some : goal.returns-then-is_some
returns-then-is_some c =
    let rows = c.in_ok-rows.rows in (
      named_comes _ _ _ _ _ _ rows.modules rows.chunks c.args.set.now c.requires (sym c.if-is_some.ensures) c.in_ok-rows.ensures ∙ sym (row_test _ _ _ c.same.ensures) ∙ c.if-not-same.false,
      named_modules_are _ _ _ _ _ _ rows.modules rows.chunks c.args.set.now c.requires (sym c.if-is_some.ensures) c.in_ok-rows.ensures,
    )

pub returns-then-not-is_share : goal.returns-then-not-is_share
returns-then-not-is_share c = share_any _ _ _ _ _ _ c.args.set.now c.requires (unnamed_from _ (sym c.if-is_some.ensures)) ∙ sym c.if-not-is_share.ensures

pub returns : goal.returns
returns c =
    let unnamed = unnamed_from _ (sym c.if-is_some.ensures) in (
      share_any _ _ _ _ _ _ c.args.set.now c.requires unnamed ∙ sym c.if-not-is_share.ensures,
      c.in_ok-modules_with.ensures ∙ modules_go _ _ _ _ _ _ c.args.set.now c.requires unnamed,
    )
