use Rattle.std.proofs.Common.{◌<◌, length, ◌∙◌, arith}
use Rattle.avail_sets.proofs.Visits.{visited}
use Rattle.chunk_groups.proofs.Marks.{bit-within}
use Rattle.avail_sets.proofs.falling.fall.Goals as goal

pub loop-p-preserved : goal.loop-p-preserved
loop-p-preserved c =
    let before = c.loop-p.invariant in
    let handed = c.visit.ensures.handed in
    let within : c.in-Some.p < length c.loop-p.pending = bit-within c.loop-p.pending c.in-Some.p c.in-Some.ensures in
    record {
      sized = c.visit.ensures.sized;
      width = handed.width ∙ before.width;
      places = omega (arith, handed.places, before.places, c.visit.ensures.sized.avail_rows, c.visit.ensures.sized.opened_rows, before.sized.opened_rows);
      falling = λ net are groups first. visited net c.args.avail.now.width c.args.opened.now.rows c.args.brought.now.rows c.loop-p.avail c.visit.new.avail c.loop-p.pending c.visit.new.pending c.in-Some.p
          are (before.falling net are groups first) (omega (arith, within, before.places, groups)) c.visit.ensures.even handed;
    }
