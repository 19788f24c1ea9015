use Rattle.std.proofs.Common.{◌<◌, ◌∙◌, length, arith, length-drop}
use Rattle.std.proofs.lemmas.Bool.Decides.{nat_tests}
use Rattle.magic_comments.proofs.CommentLemmas.{gap_turn}
use Rattle.magic_comments.proofs.magic.magic_in.Goals as goal

pub loop-rest-preserved : goal.loop-rest-preserved
loop-rest-preserved c =
    let some : 0 < length c.loop-rest.rest.now = grind (arith, nat_tests) in (
      rw (c.in_ok-size.ensures.read, c.rest_from-rest.ensures)
          (c.loop-rest.invariant.0
          ∙ gap_turn c.loop-rest.magic c.args.at c.in_ok-size.size c.loop-rest.rest.now c.args.gap.now
          some c.loop-rest.invariant.1 c.in_ok-size.ensures.size),
      rw c.rest_from-rest.ensures (simp length-drop (omega arith)),
    )
