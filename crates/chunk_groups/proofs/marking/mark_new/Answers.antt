use Rattle.std.proofs.Common.{arith}
use Rattle.std.proofs.lemmas.List.{take_more}
use Rattle.graph_types.specs.Modules.{module_no}
use Rattle.chunk_groups.proofs.Marks.{marked-none, marked-more}
use Rattle.chunk_groups.proofs.marking.mark_new.Goals as goal

pub loop-m-init : goal.loop-m-init
loop-m-init c = marked-none _ _

pub mark_one-requires : goal.mark_one-requires
mark_one-requires c = omega (arith, c.requires c.loop-m.m-index (module_no 0) c.loop-m-test.true, c.loop-m.invariant.len)

pub loop-m-preserved : goal.loop-m-preserved
loop-m-preserved c =
    let more = marked-more _ _ _ _ _ _ _ _ c.loop-m.invariant c.in_ok-mark_one.ensures in
    rw (take_more c.args.modules.now c.loop-m.m-index (module_no 0) c.loop-m-test.true) more
