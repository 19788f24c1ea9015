use Rattle.std.proofs.Common.{◌≡◌, ◌<◌, ◌-◌, false, length, map}
use Rattle.std.specs.Prelude.{Ok}
use Rattle.std.specs.List.{AllByRecursion}
use Rattle.draw_board.specs.Draws.{IsSameSeat, above, drawn, has_drawn_none}
use Rattle.build_round.specs.inner.Parts.{Works, file_at}
use Rattle.build_round.proofs.working.work.Given as goal

abbrev pub invariant-loop-position : goal.invariant-loop-position
invariant-loop-position g l = record {
  same_hand : IsSameSeat l.fn.hand l.hand;
  inside : AllByRecursion (λ position. position < length l.frontier) (drawn l.hand);
  works : Works g.R.TreeReader.view g.R.TreeReader.follows l.listing l.config (map (file_at l.frontier) (drawn l.hand)) l.fn.bench l.bench (Ok tt);
  more : has_drawn_none l.hand ≡ false;
}

abbrev pub decreases-loop-position : goal.decreases-loop-position
decreases-loop-position g l = length l.frontier - above (drawn l.hand)
