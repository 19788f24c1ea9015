use Rattle.std.proofs.Common.{◌∙◌, subst}
use Rattle.pack_run.specs.Report.{AddsProperFront}
use Rattle.pack_run.proofs.Ends.{AddsFront-none, AddsFront-all, AddsFront-proper}
use Rattle.pack_run.proofs.report.report.Goals as goal

pub returns-in_default-clause-reports : goal.returns-in_default-clause-reports
returns-in_default-clause-reports g c = (
  AddsFront-all (g.S.AssetSink.view c.args.sink.now) (g.S.AssetSink.view c.put_assets.new.sink) _ c.in-Ok.ensures.held,
  AddsFront-none (g.L.LineSink.view c.args.lines.now) _,
)

pub returns-clause-reports : goal.returns-clause-reports
returns-clause-reports g c = (
  AddsFront-all (g.S.AssetSink.view c.args.sink.now) (g.S.AssetSink.view c.put_assets.new.sink) _ c.in-Ok.ensures.held,
  AddsFront-proper (g.L.LineSink.view c.args.lines.now) (g.L.LineSink.view c.print_all.new.lines) _
      (subst (AddsProperFront (g.L.LineSink.view c.args.lines.now) (g.L.LineSink.view c.print_all.new.lines))
      (c.deref.ensures.value ∙ c.in-Ok-verdict_lines.ensures) c.in-Err-NoMemory-print_all.ensures.front),
)
