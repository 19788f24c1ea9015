use Rattle.std.proofs.Common.{◌<◌, length, subst, sym, arith}
use Rattle.std.specs.Option.{IfSome}
use Rattle.std.specs.Prelude.{Option}
use Rattle.graph_types.specs.declared.item.Item.{Item}
use Rattle.runs_seal.specs.Small.{AreGood, IsGood}
use Rattle.runs_seal.proofs.Few.{good-more}
use Rattle.runs_seal.proofs.graphs.add_item.Goals as goal

pub returns : goal.returns
returns c =
    let room : length c.args.items.now.items < 8_192 = omega (arith, c.requires.room) in
    let good = subst (λ (o : Option Item). IfSome o (IsGood c.args.size)) c.in-Some.is c.in_ok-item.ensures in
    subst (AreGood c.args.size) (sym c.in_ok-push.ensures.items) (good-more c.args.size c.args.items.now.items _ c.requires.good room good)
