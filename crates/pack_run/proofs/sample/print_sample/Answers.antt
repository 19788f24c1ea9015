use Rattle.std.proofs.Common.{subst, sym, ◌∙◌}
use Rattle.std.specs.Prelude.{IfOk}
use Rattle.pack_run.specs.Report.{Adds}
use Rattle.pack_run.specs.Sample.{EndsSample}
use Rattle.pack_run.specs.inner.Sampled.{IsOnSample}
use Rattle.pack_run.proofs.SampleEnds.{printed}
use Rattle.pack_run.proofs.sample.print_sample.Goals as goal

pub returns-in-Ok-print_all-clause-ends : goal.returns-in-Ok-print_all-clause-ends
returns-in-Ok-print_all-clause-ends g c =
    let before = g.L.LineSink.view c.args.lines.now in
    let now = g.L.LineSink.view c.print_all.new.lines in
    let is = subst (λ decided. IfOk decided (IsOnSample c.args.n)) c.in-Ok.is c.requires.verdict in
    let added = subst (Adds before now) (c.deref.ensures.value ∙ c.in-Ok-sample_lines.ensures) c.in-Ok-print_all.ensures.lines in
    subst (EndsSample c.args.n before now) (sym c.end_of.ensures) (printed c.args.n before now c.in-Ok.verdict is added)
