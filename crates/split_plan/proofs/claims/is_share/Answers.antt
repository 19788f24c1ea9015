use Rattle.std.proofs.Common.{◌≡◌, ◌&&◌, ℕ, Bool, [], true, get_or, length, sym, ap, ◌∙◌}
use Rattle.std.proofs.lemmas.List.{get_or_read}
use Rattle.chunk_graph.specs.Moves.{same_row}
use Rattle.split_plan.specs.Shares.{meets}
use Rattle.split_plan.proofs.Claimed.{none_more, some_at}
use Rattle.split_plan.proofs.claims.is_share.Goals as goal

pub returns-then-is_share_at : goal.returns-then-is_share_at
returns-then-is_share_at c =
    let set = c.args.set.now in
    let m = c.loop-module.module in
    let f : ℕ → Bool = λ k. meets c.args.rule.now k && same_row (get_or c.args.shares.now k []) set in
    let read = get_or_read c.args.shares.now m _ c.loop-module-test.true c.index-shares-module.is [] in
    let here : f m ≡ true = ap (λ row. meets c.args.rule.now m && same_row row set) (sym read) ∙ sym c.if-is_share_at.ensures in
    sym (some_at f (length c.args.shares.now) m c.loop-module-test.true here)

pub loop-module-preserved : goal.loop-module-preserved
loop-module-preserved c =
    let set = c.args.set.now in
    let m = c.loop-module.module in
    let f : ℕ → Bool = λ k. meets c.args.rule.now k && same_row (get_or c.args.shares.now k []) set in
    let read = get_or_read c.args.shares.now m _ c.loop-module-test.true c.index-shares-module.is [] in
    none_more f m c.loop-module.invariant (ap (λ row. meets c.args.rule.now m && same_row row set) (sym read) ∙ sym c.if-is_share_at.ensures)
