use Rattle.std.proofs.Common.{arith}
use Rattle.split_chunks.specs.Ends.{joined_list}
use Rattle.split_chunks.proofs.Joined.{joined_more}
use Rattle.split_chunks.proofs.joining.join_all.Goals as goal

pub loop-group-preserved : goal.loop-group-preserved
loop-group-preserved c =
    joined_more (joined_list c.args.row.now c.args.chunk.0) c.args.state.now c.loop-group.state _ c.loop-group.group (omega (arith, c.group_count-group-end.ensures)) c.loop-group.invariant c.in_ok-join_one.ensures
