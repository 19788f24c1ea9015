use Rattle.std.proofs.Common.{rules, ◌≡◌, ◌+◌, ◌<◌, ℕ, suc, arith, sym, ap, subst, ◌∙◌}
use Rattle.draw_board.specs.Draws.{above, drawn}
use Rattle.draw_board.specs.declared.hand.Hand.{Hand}
use Rattle.draw_board.proofs.Drawing.{above-push, drew, may_draw}
use Rattle.draw_board.proofs.board.DrawBoard.draw.Goals as goal

pub fetch_add-next-requires : goal.fetch_add-next-requires
fetch_add-next-requires c = (search rules, search rules, may_draw _ _ _ _ c.args.seat.now.number _ c.args.seat.now.alone c.requires.more)

pub returns-then-next-self-clause-drawn : goal.returns-then-next-self-clause-drawn
returns-then-next-self-clause-drawn c =
    let found : ℕ = c.fetch_add-next.result in
    let told = c.fetch_add-next.ensures.2 in
    let lt = c.if-next-self.true in
    let in_hand = subst (λ (n : ℕ). found < n) (sym c.requires.board.1) lt in
    let hand = drew _ _ _ found told c.args.seat.now.alone in_hand in
    let next : suc found ≡ found + 1 = omega arith in
    (lt, told.rises in_hand, ap (λ (h : Hand). above h.drawn) hand ∙ above-push (drawn c.args.seat.now) found ∙ next, ap (λ (h : Hand). h.drawn) hand, ap (λ (h : Hand). h.is_done) hand ∙ c.requires.more)
