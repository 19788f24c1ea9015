use Rattle.std.proofs.Common.{[], List}
use Rattle.chunk_graph.proofs.Lists.{push_range}
use Rattle.pack_util.specs.declared.number.GroupNo.{GroupNo}
use Rattle.stats_text.proofs.loaded.empty_lists.Goals as goal

pub loop-preserved : goal.loop-preserved
loop-preserved c = push_range {X = List GroupNo} (λ m. []) _ _ c.loop.counter _ c.in_ok-push.ensures.items c.loop.invariant c.new.ensures
