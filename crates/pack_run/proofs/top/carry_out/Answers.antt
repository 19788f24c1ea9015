use Rattle.std.proofs.Common.{◌∙◌, length, map, string_bytes, subst, sym, Ok, Err}
use Rattle.cli_words.specs.declared.words_end.WordsEnd.{WordsEnd}
use Rattle.pack_run.specs.inner.Conclusion.{ReportsOf}
use Rattle.pack_run.specs.inner.Tasks.{AnswersTask, IsTask}
use Rattle.pack_run.specs.declared.verdict.Verdict.TheVariants as verdicts
use Rattle.pack_run.specs.Accepted.{IsBuild, IsRefused, IsSample}
use Rattle.pack_run.proofs.Builds.{built}
use Rattle.pack_run.proofs.Carried.{refused, sampled, unread}
use Rattle.pack_run.proofs.top.carry_out.Goals as goal

pub returns-in-Ok-Build : goal.returns-in-Ok-Build
returns-in-Ok-Build g c =
    let words = map string_bytes c.args.words.now in
    let readers = c.args.readers.now.items in
    let config = c.in-Ok-Build.config in
    let names : IsBuild words (length readers) config = subst (IsTask words (length readers)) c.in-Ok-Build.field-0-is
    (subst (λ count. AnswersTask words count (Ok c.in-Ok-Build.field-0)) (c.len.ensures ∙ c.args.readers.now.ok.0) c.in-Ok-Build.ensures.answer) in
    built g.R.TreeReader.follows g.R.TreeReader.view c.one_job.ensures words readers c.decide-decided.new.readers.items
    (g.S.AssetSink.view c.args.sink.now) (g.S.AssetSink.view c.conclude.new.sink) (g.L.LineSink.view c.args.lines.now) (g.L.LineSink.view c.conclude.new.lines) c.conclude.result
    c.get.result.now c.decide-decided.result (subst (IsBuild words (length readers)) (sym c.get.ensures) names) c.decide-decided.ensures.build c.decide-decided.ensures.decides c.conclude.ensures

pub returns-in-Ok-Sample : goal.returns-in-Ok-Sample
returns-in-Ok-Sample g c =
    let words = map string_bytes c.args.words.now in
    let readers = c.args.readers.now.items in
    let names : IsSample words (length readers) c.in-Ok-Sample.n = subst (IsTask words (length readers)) c.in-Ok-Sample.field-0-is
    (subst (λ count. AnswersTask words count (Ok c.in-Ok-Sample.field-0)) (c.len.ensures ∙ c.args.readers.now.ok.0) c.in-Ok-Sample.ensures.answer) in
    sampled g.R.TreeReader.follows g.R.TreeReader.view c.readers_keep.ensures words readers (g.S.AssetSink.view c.args.sink.now) (g.L.LineSink.view c.args.lines.now)
    (g.L.LineSink.view c.run_sample.new.lines) c.run_sample.result c.one_job.ensures c.in-Ok-Sample.n names c.run_sample.ensures.ends c.run_sample.ensures.line_cause

pub returns-in-Err-Usage : goal.returns-in-Err-Usage
returns-in-Err-Usage g c =
    let words = map string_bytes c.args.words.now in
    let readers = c.args.readers.now.items in
    let sink = g.S.AssetSink.view in
    let lines = g.L.LineSink.view in
    let not : IsRefused words (length readers) = subst (λ (end : WordsEnd). AnswersTask words (length readers) (Err end)) c.in-Err-Usage.field-0-is
    (subst (λ count. AnswersTask words count (Err c.in-Err-Usage.field-0)) (c.len.ensures ∙ c.args.readers.now.ok.0) c.in-Err-Usage.ensures.answer) in
    let reports : ReportsOf verdicts.Usage (sink c.args.sink.now) (sink c.report.new.sink) (lines c.args.lines.now) (lines c.report.new.lines) c.report.result = record {
      reports = c.report.ensures.reports;
      may_end = c.report.ensures.end;
      write_cause = c.report.ensures.write_cause;
      line_cause = c.report.ensures.line_cause;
      nothing = c.report.ensures.nothing;
    } in
    refused g.R.TreeReader.follows g.R.TreeReader.view c.readers_keep.ensures words readers (sink c.args.sink.now) (lines c.args.lines.now)
    (lines c.report.new.lines) c.report.result (sink c.report.new.sink) not reports

pub returns-in-Err-NoMemory : goal.returns-in-Err-NoMemory
returns-in-Err-NoMemory g c =
    unread g.R.TreeReader.follows g.R.TreeReader.view c.readers_keep.ensures (map string_bytes c.args.words.now) c.args.readers.now.items (g.S.AssetSink.view c.args.sink.now) (g.L.LineSink.view c.args.lines.now)
