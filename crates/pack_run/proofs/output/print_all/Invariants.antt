use Rattle.std.proofs.Common.{◌≤◌, take}
use Rattle.pack_run.specs.Report.{Adds}
use Rattle.pack_run.proofs.output.print_all.Given as goal

abbrev pub invariant-loop-text : goal.invariant-loop-text
invariant-loop-text g l =
    let view = g.L.LineSink.view in
    record {
      lines : Adds (view l.fn.lines) (view l.lines) (take l.text-index l.texts);
      never_falls : (view l.fn.lines).faults ≤ (view l.lines).faults;
    }
