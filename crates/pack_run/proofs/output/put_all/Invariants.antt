use Rattle.std.proofs.Common.{◌≤◌, take}
use Rattle.pack_run.specs.Report.{Adds}
use Rattle.pack_run.proofs.output.put_all.Given as goal

abbrev pub invariant-loop-asset : goal.invariant-loop-asset
invariant-loop-asset g l =
    let view = g.S.AssetSink.view in
    record {
      held : Adds (view l.fn.sink) (view l.sink) (take l.asset-index l.assets);
      never_falls : (view l.fn.sink).faults ≤ (view l.sink).faults;
    }
