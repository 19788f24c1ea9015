use Rattle.std.proofs.Common.{arith, refl}
use Rattle.draw_board.proofs.Closing.{board_closes}
use Rattle.draw_board.proofs.board.DrawBoard.close.Goals as goal

pub returns-then-next-len : goal.returns-then-next-len
returns-then-next-len c =
    board_closes c.args.self.len c.args.self.seats _ _ _ c.args.seats.items _ c.gather-all.ensures.1 _ c.args.self.keyed c.close_with-closed.ensures.values.2 c.requires.0 c.word-next.result _ c.word-next.ensures (λ _. refl) (λ h. absurd (omega (arith, h, c.if-next-len.true)))

pub returns-else-next-len : goal.returns-else-next-len
returns-else-next-len c =
    board_closes c.args.self.len c.args.self.seats _ _ _ c.args.seats.items _ c.gather-all.ensures.1 _ c.args.self.keyed c.close_with-closed.ensures.values.2 c.requires.0 c.word-next.result _ c.word-next.ensures (λ h. absurd (omega (arith, h, c.if-next-len.false))) (λ _. refl)
