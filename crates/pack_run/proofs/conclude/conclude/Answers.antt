use Rattle.pack_run.specs.inner.Conclusion.{ReportsOf}
use Rattle.pack_run.proofs.Conclusions.{ended, reported}
use Rattle.pack_run.proofs.conclude.conclude.Goals as goal

pub returns-in-Ok : goal.returns-in-Ok
returns-in-Ok g c =
    let sink = g.S.AssetSink.view in
    let lines = g.L.LineSink.view in
    let reports : ReportsOf c.in-Ok.verdict (sink c.args.sink.now) (sink c.report.new.sink) (lines c.args.lines.now) (lines c.report.new.lines) c.report.result = record {
      reports = c.report.ensures.reports;
      may_end = c.report.ensures.end;
      write_cause = c.report.ensures.write_cause;
      line_cause = c.report.ensures.line_cause;
      nothing = c.report.ensures.nothing;
    } in
    reported (sink c.args.sink.now) (sink c.report.new.sink) (lines c.args.lines.now) (lines c.report.new.lines) c.args.decided c.in-Ok.verdict c.report.result c.in-Ok.is reports

pub returns-in-Err : goal.returns-in-Err
returns-in-Err g c = ended (g.S.AssetSink.view c.args.sink.now) (g.L.LineSink.view c.args.lines.now) c.args.decided c.in-Err.end c.end_without.result c.in-Err.is c.end_without.ensures
